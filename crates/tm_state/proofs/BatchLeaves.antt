-- Answers leave: the gifts that are taken one by one, and the log with the entry by which they left.
use Rattle.std.proofs.Common.{◌≡◌, ℕ, ◌+◌, ◌-◌, ◌^◌, ◌<◌, ◌≤◌, zero, suc, min, List, [], ◌∷◌, ◌++◌, length, take, drop, map, slice_index_or, slice_set, inl, inr, refl, sym, ◌∙◌, ap, subst, arith, length-append, add-one, get_or-set_same}
use Rattle.std.specs.Prelude.{slice_get}
use Rattle.std.specs.declared.option.Option.TheVariants.{None, Some}
use Rattle.std.proofs.Math.ListN.{get_or-map}
use Rattle.std.proofs.lemmas.Bool.{cases_lt}
use Rattle.std.proofs.lemmas.List.{length-map, set-set, drop-drop, take_all, drop_all}
use Rattle.tm_seq.specs.Kind.{Kind}
use Rattle.tm_batch.specs.declared.message.Name.{Name}
use Rattle.tm_batch.specs.declared.message.AnswerBatch.{AnswerBatch}
use Rattle.tm_batch.specs.declared.message.Completion.{Completion}
use Rattle.tm_model.specs.declared.entry.Entry.TheVariants.{Sent}
use Rattle.tm_model.specs.State.{Place, no_place, place_of, place_count}
use Rattle.tm_model.specs.Serve.{sent_off, state_after}
use Rattle.tm_objects.specs.Stock.{Stock, gifts_of, gift_taken, gifts_taken}
use Rattle.tm_objects.specs.Standing.{stock_of}
use Rattle.tm_objects.proofs.Alike as alike
use Rattle.tm_core.proofs.Joins.{legal_logs_join, state-append}
use Rattle.tm_core.proofs.Sound.{states_are_sound}
use Rattle.tm_state.specs.StateView.{StateView}
use Rattle.tm_state.specs.Represents.{Keeps, requests_in}
use Rattle.tm_state.specs.Asking.{MayLeave, HasLeft}
use Rattle.tm_state.proofs.BatchKeeps.{keeps_sent}
use Rattle.tm_state.proofs.BatchRuns.{requests_in-append}

module _ {X : Type 0} where
  take_none : (n : ℕ) (xs : List X) → None ≡ slice_get (drop n xs) 0 → take (suc n) xs ≡ take n xs
  take_none zero [] e = refl
  take_none zero (x ∷ xs) e = absurd cc
  take_none (suc n) [] e = refl
  take_none (suc n) (x ∷ xs) e = ap (λ l. x ∷ l) (take_none n xs e)

  take_one : (n : ℕ) (xs : List X) (x : X) → Some x ≡ slice_get (drop n xs) 0 → take (suc n) xs ≡ take n xs ++ x ∷ []
  take_one zero [] y e = absurd cc
  take_one zero (x ∷ xs) y e = let same : y ≡ x = cc in ap (λ z. z ∷ []) (sym same)
  take_one (suc n) [] y e = absurd cc
  take_one (suc n) (x ∷ xs) y e = ap (λ l. x ∷ l) (take_one n xs y e)

  drop_more : (n : ℕ) (xs : List X) → drop 1 (drop n xs) ≡ drop (n + 1) xs
  drop_more n xs = drop-drop 1 n xs ∙ ap (λ k. drop k xs) (omega arith)

  -- all of them, or so many
  pub take_least : (n : ℕ) (xs : List X) → take (min (length xs) n) xs ≡ take n xs
  take_least n xs =
      elim (cases_lt n (length xs)) [
        | inl lt ↦ ap (λ k. take k xs) (omega (arith, lt))
        | inr le ↦ take_all (min (length xs) n) xs (omega (arith, le)) ∙ sym (take_all n xs le)
      ]

  pub drop_least : (n : ℕ) (xs : List X) → drop (min (length xs) n) xs ≡ drop n xs
  drop_least n xs =
      elim (cases_lt n (length xs)) [
        | inl lt ↦ ap (λ k. drop k xs) (omega (arith, lt))
        | inr le ↦ drop_all (min (length xs) n) xs (omega (arith, le)) ∙ sym (drop_all n xs le)
      ]

  module _ (lists : List (List X)) (c n : ℕ) (now : List (List X)) (lt : c < length lists) (is : now ≡ slice_set lists c (drop n (slice_index_or lists c []))) where
    left_at : slice_index_or now c [] ≡ drop n (slice_index_or lists c [])
    left_at = ap (λ (l : List (List X)). slice_index_or l c []) is ∙ get_or-set_same lists c (drop n (slice_index_or lists c [])) [] lt

    -- one more of a list's first items was taken
    pub ready_more : (new : List (List X)) → new ≡ slice_set now c (drop 1 (slice_index_or now c [])) → new ≡ slice_set lists c (drop (n + 1) (slice_index_or lists c []))
    ready_more new taken =
        taken ∙ ap (λ l. slice_set now c (drop 1 l)) left_at ∙ ap (λ l. slice_set now c l) (drop_more n (slice_index_or lists c []))
        ∙ ap (λ (l : List (List X)). slice_set l c (drop (n + 1) (slice_index_or lists c []))) is ∙ set-set lists c _ _

    pub no_ready :
        (had : List X) → had ≡ take n (slice_index_or lists c []) → None ≡ slice_get (slice_index_or now c []) 0 → had ≡ take (n + 1) (slice_index_or lists c [])
    no_ready had is_had none =
        is_had ∙ sym (take_none n (slice_index_or lists c []) (none ∙ ap (λ l. slice_get l 0) left_at)) ∙ ap (λ k. take k (slice_index_or lists c [])) (sym (add-one n))

    pub one_ready :
        (had more : List X) (x : X) → had ≡ take n (slice_index_or lists c []) → Some x ≡ slice_get (slice_index_or now c []) 0 → more ≡ had ++ x ∷ []
        → more ≡ take (n + 1) (slice_index_or lists c [])
    one_ready had more x is_had some pushed =
        pushed ∙ ap (λ l. l ++ x ∷ []) is_had
        ∙ sym (take_one n (slice_index_or lists c []) x (some ∙ ap (λ l. slice_get l 0) left_at)) ∙ ap (λ k. take k (slice_index_or lists c [])) (sym (add-one n))

module _ {V : Type 0} (s : Stock V) (c n : ℕ) where
  -- the gifts that wait once n were taken
  waiting : c < length s.gifts → gifts_of (gifts_taken c n s).gifts c ≡ drop n (gifts_of s.gifts c)
  waiting lt = get_or-set_same s.gifts c (drop n (gifts_of s.gifts c)) [] lt

  pub one_more : (t u : Stock V) → t ≡ gifts_taken c n s → u ≡ gift_taken c t → u ≡ gifts_taken c (n + 1) s
  one_more t u is taken = taken ∙ ap (gift_taken c) is ∙ sym (alike.takes_one_more V c n s)

  pub no_gift :
      (t : Stock V) (gifts : List Name) → c < length s.gifts → t ≡ gifts_taken c n s → gifts ≡ take n (gifts_of s.gifts c)
      → None ≡ slice_get (gifts_of t.gifts c) 0 → gifts ≡ take (n + 1) (gifts_of s.gifts c)
  no_gift t gifts lt is had none =
      let at : gifts_of t.gifts c ≡ drop n (gifts_of s.gifts c) = ap (λ (x : Stock V). gifts_of x.gifts c) is ∙ waiting lt in
      had ∙ sym (take_none n (gifts_of s.gifts c) (none ∙ ap (λ l. slice_get l 0) at)) ∙ ap (λ k. take k (gifts_of s.gifts c)) (sym (add-one n))

  pub one_gift :
      (t : Stock V) (gifts more : List Name) (gift : Name) → c < length s.gifts → t ≡ gifts_taken c n s → gifts ≡ take n (gifts_of s.gifts c)
      → Some gift ≡ slice_get (gifts_of t.gifts c) 0 → more ≡ gifts ++ gift ∷ [] → more ≡ take (n + 1) (gifts_of s.gifts c)
  one_gift t gifts more gift lt is had some pushed =
      let at : gifts_of t.gifts c ≡ drop n (gifts_of s.gifts c) = ap (λ (x : Stock V). gifts_of x.gifts c) is ∙ waiting lt in
      pushed ∙ ap (λ l. l ++ gift ∷ []) had
      ∙ sym (take_one n (gifts_of s.gifts c) gift (some ∙ ap (λ l. slice_get l 0) at)) ∙ ap (λ k. take k (gifts_of s.gifts c)) (sym (add-one n))

module _ {V O R T : Type 0} (kind : Kind V O R T) where
  -- there are gifts for each place of the table
  pub has_place : (c : ℕ) (h : StateView V O R T) → MayLeave kind c h → c < length h.stock.gifts
  has_place c h (opening, log, stands, lt) =
      let s = state_after kind opening log in
      let sound = states_are_sound kind opening log stands.opens stands.is_legal in
      let gifts = ap (λ (x : Stock V). length x.gifts) stands.keeps.stock in
      let places : length (map (λ (p : Place V O R T). p.gifts) s.places) ≡ length s.places = length-map s.places (λ (p : Place V O R T). p.gifts) in
      omega (arith, gifts, places, sound.places, lt)

  -- and completions
  pub ready_place : (c : ℕ) (h : StateView V O R T) → MayLeave kind c h → c < length h.ready
  ready_place c h (opening, log, stands, lt) =
      let s = state_after kind opening log in
      let sound = states_are_sound kind opening log stands.opens stands.is_legal in
      let ready = ap (λ l. length l) stands.keeps.ready in
      let places : length (map (λ (p : Place V O R T). p.ready) s.places) ≡ length s.places = length-map s.places (λ (p : Place V O R T). p.ready) in
      omega (arith, ready, places, sound.places, lt)

  pub has_left :
      (c room : ℕ) (a : AnswerBatch V O R T) (old was : StateView V O R T) (stock : Stock V) (ready : List (List (Completion V O R T))) (entries : ℕ) → was ≡ old → room ≤ 16
      → stock ≡ gifts_taken c room was.stock → a.gifts.items ≡ take room (gifts_of was.stock.gifts c)
      → a.completions.items ≡ take 16 (slice_index_or was.ready c []) → ready ≡ slice_set was.ready c (drop 16 (slice_index_or was.ready c []))
      → entries ≡ min (was.entries + 1) (2 ^ 64 - 1) → a.front ≡ entries
      → HasLeft kind c room a old (record was { stock = stock; ready = ready; entries = entries })
  has_left c room a old was stock ready entries same most taken gifts completions left longer front opening log stands lt =
      let s = state_after kind opening log in
      let sound = states_are_sound kind opening log stands.opens stands.is_legal in
      let within : c < place_count s.setup = subst (λ z. c < place_count z) (sym sound.setup) lt in
      let keeps : Keeps s was = subst (λ h. Keeps s h) (sym same) stands.keeps in
      let sent : stock ≡ stock_of (sent_off c room s) = taken ∙ ap (gifts_taken c room) keeps.stock ∙ sym (alike.sends_alike V O R T c room s) in
      let lands : state_after kind opening (log ++ Sent c room ∷ []) ≡ sent_off c room s = state-append kind opening log (Sent c room ∷ []) in
      let at : gifts_of was.stock.gifts c ≡ (place_of s c).gifts =
      ap (λ (x : Stock V). gifts_of x.gifts c) keeps.stock ∙ get_or-map (λ (p : Place V O R T). p.gifts) s.places c no_place in
      let done : slice_index_or was.ready c [] ≡ (place_of s c).ready =
      ap (λ l. slice_index_or l c []) keeps.ready ∙ get_or-map (λ (p : Place V O R T). p.ready) s.places c no_place in
      let none : requests_in (log ++ Sent c room ∷ []) ≡ requests_in log + 0 = requests_in-append log (Sent c room ∷ []) in
      let joined : length (log ++ Sent c room ∷ []) ≡ length log + 1 = length-append log (Sent c room ∷ []) in
      let run_was = ap (λ (h : StateView V O R T). h.run) same in
      let entries_was = ap (λ (h : StateView V O R T). h.entries) same in
      let was_run = stands.run in
      let was_entries = stands.entries in (
        gifts ∙ ap (take room) at,
        completions ∙ ap (take 16) done,
        omega (arith, longer, front, entries_was, was_entries),
        record {
          opens = stands.opens;
          is_legal = (legal_logs_join kind opening log (Sent c room ∷ [])).1 stands.is_legal ((within, most), tt);
          keeps = subst (λ t. Keeps t (record was { stock = stock; ready = ready; entries = entries })) (sym lands) (keeps_sent c room s was stock ready entries keeps sent left);
          run = omega (arith, none, run_was, was_run);
          entries = omega (arith, longer, joined, entries_was, was_entries);
        },
      )
