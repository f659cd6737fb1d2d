-- An answer keeps the rule.
use Rattle.std.proofs.Common.{◌≡◌, ◌≢◌, ℕ, ◌+◌, ◌-◌, ◌<◌, ◌==◌, true, not, List, [], ◌∷◌, ◌++◌, length, slice_index_or, slice_set, inl, inr, refl, sym, ◌∙◌, ap, subst, arith, length-set, get_or-set_same, get_or-set_other, ne_eqb}
use Rattle.std.specs.Prelude.{IsSomeAnd}
use Rattle.std.specs.declared.option.Option.TheVariants.{Some}
use Rattle.std.proofs.lemmas.Bool.{cases_eq}
use mathlib.Core.Option.{some, none}
use lib.ListN.{get_elem?}
use Rattle.atomic_table.specs.Table.{step, gives, Allows}
use Rattle.atomic_table.proofs.Lists.{set_here, set_else}
use Rattle.tm_seq.specs.Kind.{Kind}
use Rattle.tm_batch.specs.declared.message.Request.{Request}
use Rattle.tm_batch.specs.declared.message.AnswerBatch.{AnswerBatch}
use Rattle.tm_model.specs.declared.entry.Entry.{Entry}
use Rattle.tm_model.specs.State.{State}
use Rattle.tm_model.specs.Legal.{IsLegal}
use Rattle.tm_model.specs.Lists.{IsPrefix}
use Rattle.tm_model.specs.Slots.{Taken, no_slot, slot_of, answered, first_core}
use Rattle.tm_model.specs.GoodSlots.{Agrees}
use Rattle.tm_model.specs.Good.{FullBox, FullSlot, FullCore, IsGood}
use Rattle.tm_model.specs.Ran.{mark_of, ran}
use Rattle.tm_model.specs.Batches.{batches}
use Rattle.tm_model.specs.Entries.{added}
use Rattle.tm_model.specs.Answering.{MayGrow, answer_with}
use Rattle.tm_model.specs.Laws.{IsOpening}
use Rattle.tm_core.proofs.LogTallied.{answer_keeps_good}
use Rattle.tm_pair.specs.Views.{BatchView, hand_of}
use Rattle.tm_pair.specs.Calls.{HasAnswered}
use Rattle.tm_pair.specs.Sides.{IsGoodTrustee}
use Rattle.tm_pair.specs.SideViews.{client_of, trustee_of}
use Rattle.tm_pair.specs.Moves.{core_after, answer_of}
use Rattle.tm_pair.specs.declared.moves.Move.{Move}
use Rattle.tm_pair.proofs.Standing.{trustee_good}
use Rattle.tm_pair.proofs.Calling.{core_next, answer_is, may_be_answered}
use Rattle.tm_pair.proofs.Stepping as stepping
use Rattle.tm_toggle.specs.Contents.{answers_in, HasNoRequests}
use Rattle.tm_toggle.specs.Ruled.{listed, r_of, s_of, bit, opening_in, trustee_in, IsByClient, IsByTrustee, IsNext, IsHome, Course, Knows, Delegates}
use Rattle.tm_toggle.specs.Plays.{Sat, replies, HasReplied, AnswersAt, answers}
use Rattle.tm_toggle.specs.declared.content.Content.{Content}
use Rattle.tm_toggle.specs.declared.view.View.{View}
use Rattle.tm_toggle.proofs.Facts.{off, same_s, flips, one_content, same_content, all_snoc, all_more, all_own, next_call, come_next, prefix_on}
use Rattle.tm_toggle.proofs.Keeps.{SameClients, SameElse, after_trustee, untouched_on, moved, delegates}

module _ {V O R T : Type 0} (kind : Kind V O R T) (opening : State V O R T) where
  -- what was sent by a place whose batch was taken
  taken_sent :
      (box : FullBox V O R T) (slot : FullSlot V O R T) (c : ℕ) (log : List (Entry V O R T)) (b : List (Request V O R T)) (room : ℕ)
      → box ≡ Taken b room → Agrees mark_of (batches kind opening) (IsLegal kind opening) box slot c log → slot.sent ≡ ran c log ++ b
  taken_sent box slot c log b room e agrees =
      (subst (λ (x : FullBox V O R T). Agrees mark_of (batches kind opening) (IsLegal kind opening) x slot c log) e agrees).1

  answers_to :
      (core : FullCore V O R T) (c : ℕ) (hand : BatchView V O R T) (resumes : List (Entry V O R T)) (a : AnswerBatch V O R T) (old past : List (Move V O R T))
      → IsOpening opening → IsGood kind opening (answer_with c hand.requests hand.room resumes a core) → c < length core.slots
      → hand_of (trustee_of core) c ≡ Some hand → trustee_in old ≡ trustee_of core → ((d : ℕ) → replies old d ≡ (slot_of core d).response_word)
      → core_after past ≡ answer_with c hand.requests hand.room resumes a core → IsNext IsByTrustee old past (answer_of c resumes a)
      → HasReplied kind opening c resumes a old past
  answers_to core c hand resumes a old past opens good lt there view words is next =
      let core' = answer_with c hand.requests hand.room resumes a core in
      let slot' = answered a (core.log ++ added core.log resumes c hand.requests hand.room a.answers.items) hand.room (slot_of core c) in
      let now : slot_of core' c ≡ slot' = get_or-set_same core.slots c slot' no_slot lt in
      record {
        answers = subst (λ k. HasAnswered c resumes a (trustee_in old) (trustee_of k)) (sym is)
            (subst (λ x. HasAnswered c resumes a x (trustee_of core')) (sym view) (stepping.answers core c hand resumes a there));
        next = next;
        word = ap (λ (k : FullCore V O R T). (slot_of k c).response_word) is ∙ ap (λ (x : FullSlot V O R T). x.response_word) now ∙ ap not (sym (words c));
        words = λ d ne. ap (λ (k : FullCore V O R T). (slot_of k d).response_word) is ∙ ap (λ (x : FullSlot V O R T). x.response_word) (stepping.other_slot core c d slot' ne) ∙ sym (words d);
        good = subst (λ k. IsGoodTrustee kind opening (trustee_of k)) (sym is) (trustee_good kind opening core' opens good);
      }

  answers_at :
      (slots id : ℕ) (v : View V O R T) (resumes : List (Entry V O R T)) (y : Content V O R T) (i new c : ℕ) → v.trustee ≡ true → opening_in v ≡ opening
      → i ≡ s_of c → c < slots → v.up ≡ c + 1 → new ≡ 1 - bit (replies v.past.items c) → HasNoRequests y
      → IsSomeAnd (hand_of (trustee_in v.past.items) c) (λ hand. MayGrow kind opening (trustee_in v.past.items).log resumes c hand.requests hand.room (answers_in y))
      → Allows (Delegates kind opening) slots id (v, (c, y) ∷ []) i (λ _. new) (λ _. answers kind resumes (step slots i new 0 none) (v, (c, y) ∷ []) new)
  unfolding SameClients SameElse
  answers_at slots id v resumes y i new c all begins is near high flip clear may s r deep at _ =
      let k = r.0 in let h = r.1 in
      let core = core_after k.past in let slot = slot_of core c in
      let know = h.seats id v at in let own = know.log all in
      let inside : c < length s.homes = omega arith in
      let lt : c < length core.slots = subst (λ n. c < n) (sym h.places) inside in
      let a = answers_in y in
      let t = may_be_answered kind opening core (trustee_in v.past.items) c resumes a own.view may in
      let hand = t.0 in
      let q = hand.requests in let room = hand.room in
      let box : slot.box ≡ Taken q room = t.4 in
      let grows : MayGrow kind opening core.log resumes c q room a = t.5 in
      let core' = answer_with c q room resumes a core in
      let slot' = answered a (core.log ++ added core.log resumes c q room a.answers.items) room slot in
      let now : slot_of core' c ≡ slot' = get_or-set_same core.slots c slot' no_slot lt in
      let move : Move V O R T = answer_of c resumes a in
      let past' = k.past ++ move ∷ [] in
      let next : core_after past' ≡ core' = core_next k.past past' move refl ∙ answer_is slot.box c q room resumes a core box in
      let good = answer_keeps_good kind opening core c q room resumes a h.opens (record { in_range = lt; is_taken = box; grows = grows }) h.good in
      let sent = taken_sent slot.box slot c core.log q room box (h.good.slots.slots c lt).agrees in
      let same : (d : ℕ) → (client_of d (slot_of core' d) ≡ client_of d (slot_of core d)) × ((slot_of core' d).request_word ≡ (slot_of core d).request_word) =
      λ d. (
        stepping.answer_clients core c (ran c core.log) q room resumes a d lt box sent grows.as_many,
        elim (cases_eq d c) [
          | inl e ↦ subst (λ x. (slot_of core' x).request_word ≡ (slot_of core x).request_word) (sym e) (ap (λ (x : FullSlot V O R T). x.request_word) now)
          | inr ne ↦ ap (λ (x : FullSlot V O R T). x.request_word) (stepping.other_slot core c d slot' ne)
        ],
      ) in
      let w : View V O R T = record v { past = listed past'; up = 0 } in
      let k' : Course V O R T = record k { past = past'; up = 0 } in
      let longer : IsPrefix core.log core'.log = (added core.log resumes c q room a.answers.items, refl) in
      let here : Knows opening core' k' id w = record {
        noted = prefix_on v.noted.items core.log core'.log know.noted longer;
        opening_is = know.opening_is;
        log = λ _. record {
          number = own.number;
          view = ap (λ (x : FullCore V O R T). trustee_of x) next;
          words = λ d. ap (λ (x : FullCore V O R T). (slot_of x d).response_word) next;
          up_is = refl;
          made = own.made;
          calls = all_own IsByTrustee past';
        };
        own = λ z _. absurd (off (sym all ∙ z));
      } in
      let others : (j : ℕ) (u : View V O R T) → j ≢ id → get_elem? s.views j ≡ some u → Knows opening core' k' j u =
      λ j u apart there. after_trustee opening core core' k past' 0 j u same longer
      (λ d front. all_more (IsByClient d) front k.past move (λ e. e))
      (λ z. apart (z ∙ sym own.number)) (h.seats j u there) in
      let word : new ≡ bit slot'.response_word = flip ∙ ap (λ b. 1 - bit b) (own.words c) ∙ sym (flips slot.response_word) in
      let wide = h.wide in
      let up_is = own.up_is in (
        w,
        gives,
        tt,
        delegates kind opening k' core' _ next (moved kind opening s core core' k past' 0 c (slice_set s.words i new) (slice_set s.homes c (some y)) id w h
            (come_next k.past move (first_core 0) h.calls (q, room, box)) good (length-set core.slots c slot')
            (λ d ne. stepping.other_slot core c d slot' ne)
            (λ d other. ne_eqb k.up (d + 1) (λ z. other (omega arith)) ∙ sym (ne_eqb 0 (d + 1) (λ z. omega arith)))
            (λ d l was. untouched_on core core' k past' 0 d (same d).0 (same d).1 (all_snoc (λ m. IsByClient d m → ⊥) k.past move was.calls (λ e. e)) was)
            (length-set s.words i new) (length-set s.homes c (some y))
            (λ d ne. (get_or-set_other s.words i (r_of d) new 0 (λ z. omega arith), get_or-set_other s.words i (s_of d) new 0 (λ z. ne (omega arith)))) (
              get_or-set_other s.words i (r_of c) new 0 (λ z. omega arith) ∙ h.requests c inside ∙ ap (λ (x : FullSlot V O R T). bit x.request_word) (sym now),
              subst (λ (z : ℕ). slice_index_or (slice_set s.words i new) z 0 ≡ new) is (get_or-set_same s.words i new 0 (omega arith)) ∙ word ∙ ap (λ (x : FullSlot V O R T). bit x.response_word) (sym now),
            )
            (λ d ne. set_else s.homes c d (some y) ne) (
              some y,
              set_here s.homes c (some y) inside,
              subst (λ (x : FullSlot V O R T). IsHome (k.held c) (0 == c + 1) (some y) x.box) (sym now) (y, refl, (refl, clear)),
            )
            here others),
        λ d y' z e. subst (λ (x : ℕ × Content V O R T). AnswersAt kind resumes x.0 x.1 (v, (c, y) ∷ []) (w, []))
            (λ j. (same_s c d (sym is ∙ z) j, same_content y y' c d [] [] (one_content c y) refl e j)) (
              past',
              refl,
              subst (λ o. HasReplied kind o c resumes a v.past.items past') (sym begins)
                  (answers_to core c hand resumes a v.past.items past' h.opens good lt t.2 own.view own.words next (next_call IsByTrustee v.past.items k.past move own.calls)),
            ),
      )

  pub answers_as :
      (slots id : ℕ) (m : Sat V O R T) (v : View V O R T) (resumes : List (Entry V O R T)) (y : Content V O R T) (i new c : ℕ) → m ≡ (v, (c, y) ∷ [])
      → v.trustee ≡ true → opening_in v ≡ opening → i ≡ s_of c → c < slots → v.up ≡ c + 1 → new ≡ 1 - bit (replies v.past.items c) → HasNoRequests y
      → IsSomeAnd (hand_of (trustee_in v.past.items) c) (λ hand. MayGrow kind opening (trustee_in v.past.items).log resumes c hand.requests hand.room (answers_in y))
      → Allows (Delegates kind opening) slots id m i (λ _. new) (λ _. answers kind resumes (step slots i new 0 none) m new)
  answers_as slots id m v resumes y i new c e all begins is near high flip clear may =
      subst (λ (z : Sat V O R T). Allows (Delegates kind opening) slots id z i (λ _. new) (λ _. answers kind resumes (step slots i new 0 none) z new)) (sym e)
      (answers_at slots id v resumes y i new c all begins is near high flip clear may)
