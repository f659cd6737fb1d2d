-- A table at first keeps the rule, and so do a new client's seat and its first step.
use Rattle.std.proofs.Common.{◌≡◌, ◌≢◌, ℕ, zero, suc, ◌+◌, ◌*◌, ◌<◌, ◌≤◌, ◌==◌, Bool, true, false, cond, List, [], ◌∷◌, ◌++◌, length, slice_index_or, slice_set, map, replicate, inl, inr, ⊎_elim, refl, sym, ◌∙◌, ap, subst, arith, length-set, eq-eqb, ne_eqb, ◌⊎◌}
use Rattle.std.specs.declared.option.Option.TheVariants.{None}
use Rattle.std.proofs.lemmas.Bool.{cases_eq}
use mathlib.Core.Option.{some, none, some-injective, some-ne-none}
use mathlib.Core.Option as maybe
use lib.ListN.{get_elem?, length-map, length-replicate}
use Rattle.atomic_table.specs.Table.{step, takes, Allows, Splits, opening as opening_table}
use Rattle.atomic_table.proofs.Lists.{at_set, set_here, set_else, at_map}
use Rattle.tm_seq.specs.Kind.{Kind}
use Rattle.tm_model.specs.State.{State, place_count}
use Rattle.tm_model.specs.Opening.{IsBuildable}
use Rattle.tm_model.specs.Slots.{Empty, no_slot, slot_of, first_core}
use Rattle.tm_model.specs.Good.{FullBox, FullSlot, FullCore}
use Rattle.tm_model.specs.Laws.{IsOpening}
use Rattle.tm_core.proofs.First.{first_is_good}
use Rattle.tm_pair.specs.Views.{ClientView}
use Rattle.tm_pair.specs.SideViews.{client_of}
use Rattle.tm_pair.specs.Moves.{core_after}
use Rattle.tm_pair.specs.declared.moves.Move.TheVariants.{Open}
use Rattle.tm_pair.proofs.Calling.{nothing_out}
use Rattle.tm_toggle.specs.Contents.{IsFull, IsClear, no_content}
use Rattle.tm_toggle.specs.Ruled.{r_of, s_of, bit, opening_in, opening_by, client_in, IsByTrustee, IsHome, Course, Knows, Delegates}
use Rattle.tm_toggle.specs.Plays.{Sat, first_view, settles, with_client, new_client}
use Rattle.tm_toggle.specs.declared.content.Content.{Content}
use Rattle.tm_toggle.specs.declared.view.View.{View}
use Rattle.tm_toggle.specs.declared.sides.Key.{Key}
use Rattle.tm_toggle.proofs.Facts.{off, all_own}
use Rattle.tm_toggle.proofs.Keeps.{loaded}

pub always : {A : Type 0} (n i : ℕ) (a : A) → slice_index_or (replicate n a) i a ≡ a
always zero i a = refl
always (suc n) zero a = refl
always (suc n) (suc i) a = always n i a

grown : {A : Type 0} (n : ℕ) (a : A) → replicate n a ++ a ∷ [] ≡ replicate (suc n) a
grown zero a = refl
grown (suc n) a = ap (λ l. a ∷ l) (grown n a)

pub snoc : {A : Type 0} (n : ℕ) (a : A) → replicate n a ++ a ∷ [] ≡ replicate (n + 1) a
snoc n a = let e : suc n ≡ n + 1 = omega arith in grown n a ∙ ap (λ (k : ℕ). replicate k a) e

at_replicate : {A : Type 0} (n i : ℕ) (a : A) → i < n → get_elem? (replicate n a) i ≡ some a
at_replicate zero i a h = absurd (omega arith)
at_replicate (suc n) zero a h = refl
at_replicate (suc n) (suc i) a h = at_replicate n i a (omega arith)

pub at_end : {A : Type 0} (l : List A) (a b : A) (j : ℕ) → get_elem? (l ++ a ∷ []) j ≡ some b → (get_elem? l j ≡ some b) ⊎ ((j ≡ length l) × (a ≡ b))
at_end [] a b zero e = inr (refl, some-injective a b e)
at_end [] a b (suc j) e = absurd (some-ne-none b (sym e))
at_end (x ∷ xs) a b zero e = inl e
at_end (x ∷ xs) a b (suc j) e = ⊎_elim (λ t. inl t) (λ t. inr (ap suc t.0, t.1)) (at_end xs a b j e)

-- a function that is changed at one number
abbrev changed : {A : Type 0} → (ℕ → A) → ℕ → A → ℕ → A
changed f p a d = cond (d == p) a (f d)

changed_here : {A : Type 0} (f : ℕ → A) (p : ℕ) (a : A) → changed f p a p ≡ a
changed_here f p a = ap (λ (x : Bool). cond x a (f p)) (eq-eqb p p refl)

changed_else : {A : Type 0} (f : ℕ → A) (p : ℕ) (a : A) (d : ℕ) → d ≢ p → changed f p a d ≡ f d
changed_else f p a d ne = ap (λ (x : Bool). cond x a (f d)) (ne_eqb d p ne)

abbrev no_slot_of : (V O R T : Type 0) → FullSlot V O R T
no_slot_of V O R T = no_slot

abbrev pub empty_of : {V O R T : Type 0} → Kind V O R T → Content V O R T
empty_of kind = no_content kind

-- the calls of a table of so many places at first
abbrev pub course_of : (V O R T : Type 0) → ℕ → Course V O R T
course_of V O R T places = record { past = Open places ∷ []; held = λ _. false; up = 0; made = 0; seat = λ _. 0 }

module _ {V O R T : Type 0} where
  pub fresh_slot : (n c : ℕ) → slice_index_or (replicate n (no_slot_of V O R T)) c no_slot ≡ no_slot_of V O R T
  fresh_slot n c = always n c (no_slot_of V O R T)

  full : (kind : Kind V O R T) → IsFull (empty_of kind)
  full kind = record {
    requests = refl;
    answers = refl;
    gifts = refl;
    completions = refl;
    counts = refl;
    asked_most = omega arith;
    answered_most = omega arith;
    given_most = omega arith;
    ended_most = omega arith;
  }

  clear : (kind : Kind V O R T) → IsClear (empty_of kind)
  clear kind = (record { requests = refl; full = full kind }, record { answers = refl; gifts = refl; completions = refl; full = full kind })

module _ {V O R T : Type 0} (kind : Kind V O R T) where
  one :
      (key : Key V O R T) (j : ℕ) (u : View V O R T) → get_elem? (first_view key ∷ []) j ≡ some u
      → Knows (opening_by key) (first_core (key.config.clients + key.number)) (course_of V O R T (key.config.clients + key.number)) j u
  one key zero u at =
      let k = key.config.clients + key.number in
      let core : FullCore V O R T = first_core k in
      subst (Knows (opening_by key) core (course_of V O R T k) 0) (some-injective (first_view key) u at) (record {
        noted = ([], refl);
        opening_is = λ _. refl;
        log = λ _. record {
          number = refl;
          view = refl;
          words = λ c. refl;
          up_is = refl;
          made = refl;
          calls = all_own IsByTrustee (Open k ∷ []);
        };
        own = λ z _. absurd (off z);
      })
  one key (suc j) u at = absurd (some-ne-none u (sym at))

  starts_at :
      (key : Key V O R T) → IsBuildable key.config key.first.items → key.number < key.config.trustees
      → Delegates kind (opening_by key) (opening_table (replicate (32 * (key.config.clients + key.number) + 48) 0) (replicate (key.config.clients + key.number) (no_content kind)) (first_view key))
  starts_at key buildable number =
      let n = key.config.clients + key.number in
      let opening = opening_by key in
      let is : IsOpening opening = (key.number, key.config, key.first.items, buildable, number, refl) in
      let empty : Content V O R T = no_content kind in
      let z : ℕ = 0 in
      let deep : length (map some (replicate n empty)) ≡ n = length-map (replicate n empty) some ∙ length-replicate n empty in
      let back : (c : ℕ) → c < length (map some (replicate n empty)) → c < n = λ c l. subst (λ (k : ℕ). c < k) deep l in (
        course_of V O R T n,
        record {
          opens = is;
          calls = (tt, tt);
          good = first_is_good kind opening is;
          places = length-replicate n (no_slot_of V O R T) ∙ sym deep;
          wide = length-replicate (32 * n + 48) z ∙ ap (λ (k : ℕ). 32 * k + 48) (sym deep);
          few = omega arith;
          requests = λ c l. always (32 * n + 48) (r_of c) z ∙ ap (λ (x : FullSlot V O R T). bit x.request_word) (sym (fresh_slot n c));
          responses = λ c l. always (32 * n + 48) (s_of c) z ∙ ap (λ (x : FullSlot V O R T). bit x.response_word) (sym (fresh_slot n c));
          homes = λ c l. (
            some empty,
            at_map some (replicate n empty) c empty (at_replicate n c empty (back c l)),
            subst (λ (x : FullSlot V O R T). IsHome false (0 == c + 1) (some empty) x.box) (sym (fresh_slot n c)) (empty, refl, clear kind),
          );
          later = λ c l. let f = fresh_slot n c in record {
            view = ap (λ (x : FullSlot V O R T). client_of c x) f;
            word = ap (λ (x : FullSlot V O R T). x.request_word) f;
            held = refl;
            calls = ((λ e. e), tt);
          };
          seats = λ j u e. one key j u e;
        },
      )

  pub starts :
      (key : Key V O R T) (n : ℕ) (ws : List ℕ) (xs : List (Content V O R T)) → IsBuildable key.config key.first.items → key.number < key.config.trustees
      → n ≡ key.config.clients + key.number → ws ≡ replicate (32 * n + 48) 0 → xs ≡ replicate n (no_content kind)
      → Delegates kind (opening_by key) (opening_table ws xs (first_view key))
  starts key n ws xs buildable number count words empties =
      subst (λ (z : List ℕ × List (Content V O R T)). Delegates kind (opening_by key) (opening_table z.0 z.1 (first_view key)))
      (λ j. (sym (words ∙ ap (λ (k : ℕ). replicate (32 * k + 48) 0) count) j, sym (empties ∙ ap (λ (k : ℕ). replicate k (empty_of kind)) count) j))
      (starts_at key buildable number)

  module _ (opening : State V O R T) where
    splits : (id : ℕ) (v : View V O R T) → v.trustee ≡ true → v.note ≡ false → opening_in v ≡ opening → v.made < place_count opening.setup
        → Splits (Delegates kind opening) id v (with_client v) (new_client v)
    splits id v all plain begins room s r at =
        let k = r.0 in let h = r.1 in
        let core = core_after k.past in
        let know = h.seats id v at in
        let own = know.log all in
        let left : View V O R T = with_client v in
        let right : View V O R T = new_client v in
        let vs : List (View V O R T) = slice_set s.views id left in
        let made = own.made in
        let clean = h.later v.made (omega arith) in
        let places : place_count opening.setup ≡ length s.homes = sym h.good.places ∙ h.places in
        let within : v.made < length s.homes = subst (λ k. v.made < k) places room in
        let k' : Course V O R T = record k { made = k.made + 1; seat = changed k.seat v.made (length vs) } in (
          k',
          record {
            opens = h.opens;
            calls = h.calls;
            good = h.good;
            places = h.places;
            wide = h.wide;
            few = omega arith;
            requests = h.requests;
            responses = h.responses;
            homes = h.homes;
            later = λ c l. let was = h.later c (omega arith) in record { view = was.view; word = was.word; held = was.held; calls = was.calls };
            seats = λ j u there. ⊎_elim
                (λ (old : get_elem? vs j ≡ some u). ⊎_elim
                (λ (t : (j ≡ id) × (left ≡ u)). subst (λ (z : ℕ × View V O R T). Knows opening core k' z.0 z.1) (λ i. (sym t.0 i, t.1 i)) (record {
                  noted = know.noted;
                  opening_is = know.opening_is;
                  log = λ _. record {
                    number = own.number;
                    view = own.view;
                    words = own.words;
                    up_is = own.up_is;
                    made = ap (λ n. n + 1) made;
                    calls = own.calls;
                  };
                  own = λ z _. absurd (off (sym all ∙ z));
                }))
                (λ (t : (j ≢ id) × (get_elem? s.views j ≡ some u)). let them = h.seats j u t.1 in record {
                  noted = them.noted;
                  opening_is = them.opening_is;
                  log = λ z. absurd (t.0 ((them.log z).number ∙ sym own.number));
                  own = λ z y. let o = them.own z y in let low = o.inside in record {
                    number = o.number ∙ sym (changed_else k.seat v.made (length vs) u.place (λ w. omega arith));
                    inside = omega arith;
                    view = o.view;
                    word = o.word;
                    settled = o.settled;
                    calls = o.calls;
                  };
                })
                (at_set s.views id j left u old))
                (λ (t : (j ≡ length vs) × (right ≡ u)). subst (λ (z : View V O R T). Knows opening core k' j z) t.1 (record {
                  noted = (core.log, refl);
                  opening_is = λ _. begins;
                  log = λ z. absurd (off (sym z));
                  own = λ _ _. record {
                    number = t.0 ∙ sym (changed_here k.seat v.made (length vs));
                    inside = omega arith;
                    view = sym clean.view;
                    word = sym clean.word;
                    settled = clean.held;
                    calls = (k.past, refl, clean.calls);
                  };
                }))
                (at_end vs right u j there);
          },
        )

    settles_at : (slots id : ℕ) (v : View V O R T) (i : ℕ) → v.trustee ≡ false → v.note ≡ false → v.settled ≡ false → (client_in v.place v.past.items).out ≡ None
        → Allows (Delegates kind opening) slots id (v, []) i (λ n. n) (settles (step slots i 0 0 none) (v, []))
    settles_at slots id v i mine plain unsettled none_out s r deep at _ =
        let k = r.0 in let h = r.1 in
        let core = core_after k.past in let p = v.place in
        let slot = slot_of core p in
        let know = h.seats id v at in
        let own = know.own mine plain in
        let few = h.few in let low = own.inside in
        let inside : p < length s.homes = omega arith in
        let free : slot.box ≡ Empty = nothing_out slot.box slot.sent (sym (ap (λ (x : ClientView V O R T). x.out) own.view) ∙ none_out) in
        let was = h.homes p inside in
        let t : FullBox V O R T = Empty in
        let home : (y : Content V O R T) × (was.0 ≡ some y) × IsClear y =
        subst (λ (b : Bool). IsHome b (k.up == p + 1) was.0 t) (own.settled ∙ unsettled) (subst (λ (x : FullBox V O R T). IsHome (k.held p) (k.up == p + 1) was.0 x) free was.2) in
        let y = home.0 in
        let k' : Course V O R T = record k { held = changed k.held p true } in
        let here = changed_here k.held p true in
        let else = changed_else k.held p true in
        let w : View V O R T = record v { settled = true } in
        let hs : List (maybe.Option (Content V O R T)) = slice_set s.homes p none in
        let back : (c : ℕ) → c < length hs → c < length s.homes = λ c l. subst (λ (z : ℕ). c < z) (length-set s.homes p none) l in
        let gone : IsHome true (k.up == p + 1) none t = refl in (
          w,
          takes p y,
          was.1 ∙ ap some home.1,
          loaded kind opening s i hs (slice_set s.views id w) (
            k',
            record {
              opens = h.opens;
              calls = h.calls;
              good = h.good;
              places = h.places ∙ sym (length-set s.homes p none);
              wide = h.wide ∙ ap (λ (z : ℕ). 32 * z + 48) (sym (length-set s.homes p none));
              few = subst (λ (z : ℕ). k.made ≤ z) (sym (length-set s.homes p none)) h.few;
              requests = λ c l. h.requests c (back c l);
              responses = λ c l. h.responses c (back c l);
              homes = λ c l. elim (cases_eq c p) [
                | inl e ↦ (
                  none,
                  ap (λ d. get_elem? hs d) e ∙ set_here s.homes p none inside,
                  subst (λ (d : ℕ). IsHome (changed k.held p true d) (k.up == d + 1) none (slot_of core d).box) (sym e)
                      (subst (λ (x : FullBox V O R T). IsHome (changed k.held p true p) (k.up == p + 1) none x) (sym free)
                      (subst (λ (b : Bool). IsHome b (k.up == p + 1) none t) (sym here) gone)),
                )
                | inr ne ↦ let old = h.homes c (back c l) in (
                  old.0,
                  set_else s.homes p c none ne ∙ old.1,
                  subst (λ (x : Bool). IsHome x (k.up == c + 1) old.0 (slot_of core c).box) (sym (else c ne)) old.2,
                )
              ];
              later = λ c l. let old = h.later c l in record { view = old.view; word = old.word; held = else c (λ z. omega arith) ∙ old.held; calls = old.calls };
              seats = λ j u e. ⊎_elim (λ (t : (j ≡ id) × (w ≡ u)). subst (λ (z : ℕ × View V O R T). Knows opening core k' z.0 z.1) (λ i. (sym t.0 i, t.1 i)) (record {
                noted = know.noted;
                opening_is = know.opening_is;
                log = λ t. absurd (off (sym t ∙ mine));
                own = λ _ _. record { number = own.number; inside = own.inside; view = own.view; word = own.word; settled = here; calls = own.calls };
              }))
                  (λ (t : (j ≢ id) × (get_elem? s.views j ≡ some u)). let them = h.seats j u t.1 in record {
                    noted = them.noted;
                    opening_is = them.opening_is;
                    log = λ z. let o = them.log z in record {
                      number = o.number;
                      view = o.view;
                      words = o.words;
                      up_is = o.up_is;
                      made = o.made;
                      calls = o.calls;
                    };
                    own = λ z y. let o = them.own z y in record {
                      number = o.number;
                      inside = o.inside;
                      view = o.view;
                      word = o.word;
                      settled = else u.place (λ y. t.0 (o.number ∙ ap k.seat y ∙ sym own.number)) ∙ o.settled;
                      calls = o.calls;
                    };
                  })
                  (at_set s.views id j w u e);
            },
          ),
          (y, refl, home.2),
        )

    pub settles_as : (slots id : ℕ) (m : Sat V O R T) (v : View V O R T) (i : ℕ) → m ≡ (v, []) → v.trustee ≡ false → v.note ≡ false → v.settled ≡ false → (client_in v.place v.past.items).out ≡ None
        → Allows (Delegates kind opening) slots id m i (λ n. n) (settles (step slots i 0 0 none) m)
    settles_as slots id m v i e mine plain unsettled none_out =
        subst (λ (z : Sat V O R T). Allows (Delegates kind opening) slots id z i (λ n. n) (settles (step slots i 0 0 none) z)) (sym e)
        (settles_at slots id v i mine plain unsettled none_out)

    pub splits_as : (id : ℕ) (m : Sat V O R T) (v : View V O R T) → m ≡ (v, []) → v.trustee ≡ true → v.note ≡ false → opening_in v ≡ opening → v.made < place_count opening.setup
        → Splits (Delegates kind opening) id m.0 (with_client m.0) (new_client m.0)
    splits_as id m v e all plain begins room =
        subst (λ (z : Sat V O R T). Splits (Delegates kind opening) id z.0 (with_client z.0) (new_client z.0)) (sym e) (splits id v all plain begins room)
