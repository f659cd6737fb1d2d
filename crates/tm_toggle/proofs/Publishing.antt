-- A publish keeps the rule.
use Rattle.std.proofs.Common.{◌≡◌, ◌≢◌, ℕ, ◌+◌, ◌-◌, ◌<◌, ◌≤◌, ◌==◌, false, true, not, List, [], ◌∷◌, ◌++◌, length, slice_index_or, slice_set, inl, inr, refl, sym, ◌∙◌, ap, subst, arith, length-set, get_or-set_same, get_or-set_other}
use Rattle.std.specs.declared.option.Option.TheVariants.{None}
use Rattle.std.proofs.lemmas.Bool.{cases_eq}
use mathlib.Core.Option.{some, none}
use lib.ListN.{get_elem?}
use Rattle.atomic_table.specs.Table.{step, gives, Allows}
use Rattle.atomic_table.proofs.Lists.{set_here, set_else}
use Rattle.tm_seq.specs.Kind.{Kind}
use Rattle.tm_batch.specs.declared.limits.TheConstants.{MOST_REQUESTS, MOST_ROOM}
use Rattle.tm_batch.specs.declared.batch.Batch.{Batch}
use Rattle.tm_model.specs.State.{State}
use Rattle.tm_model.specs.Slots.{Empty, no_slot, slot_of, publish, published, first_core}
use Rattle.tm_model.specs.Good.{FullSlot, FullCore, IsGood}
use Rattle.tm_model.specs.Orderly.{IsOrderly}
use Rattle.tm_model.specs.Laws.{IsOpening}
use Rattle.tm_core.proofs.Accounts.{publish_keeps_good}
use Rattle.tm_pair.specs.Views.{ClientView}
use Rattle.tm_pair.specs.Calls.{Publishes}
use Rattle.tm_pair.specs.Sides.{IsGoodClient}
use Rattle.tm_pair.specs.SideViews.{client_of}
use Rattle.tm_pair.specs.Moves.{core_after}
use Rattle.tm_pair.specs.declared.moves.Move.{Move}
use Rattle.tm_pair.specs.declared.moves.Move.TheVariants.{Publish}
use Rattle.tm_pair.proofs.Standing.{client_good}
use Rattle.tm_pair.proofs.Calling.{core_next, nothing_out}
use Rattle.tm_pair.proofs.Stepping as stepping
use Rattle.tm_toggle.specs.Contents.{batch_in, HasNoAnswers}
use Rattle.tm_toggle.specs.Ruled.{listed, r_of, s_of, bit, opening_in, client_in, IsByClient, IsByTrustee, IsNext, IsHome, Course, Knows, Delegates}
use Rattle.tm_toggle.specs.Plays.{Sat, asks, HasPublished, publishes}
use Rattle.tm_toggle.specs.declared.content.Content.{Content}
use Rattle.tm_toggle.specs.declared.view.View.{View}
use Rattle.tm_toggle.proofs.Facts.{off, flips, one_content, same_content, all_snoc, all_more, all_own, next_call, come_next, prefix_self}
use Rattle.tm_toggle.proofs.Keeps.{SameElse, after_client, untouched_on, moved, delegates}

module _ {V O R T : Type 0} (kind : Kind V O R T) (opening : State V O R T) where
  publishes_to :
      (core : FullCore V O R T) (c : ℕ) (batch : Batch V O R T) (old past : List (Move V O R T))
      → IsOpening opening → IsGood kind opening (publish c batch.requests.items batch.room core) → c < length core.slots
      → client_in c old ≡ client_of c (slot_of core c) → asks old c ≡ (slot_of core c).request_word
      → core_after past ≡ publish c batch.requests.items batch.room core → IsNext (IsByClient c) old past (Publish c batch)
      → HasPublished kind opening c batch old past
  publishes_to core c batch old past opens good lt view word is next =
      let core' = publish c batch.requests.items batch.room core in
      let new = published batch.requests.items batch.room (slot_of core c) in
      let now : slot_of core' c ≡ new = get_or-set_same core.slots c new no_slot lt in
      record {
        publishes = subst (λ k. Publishes batch.requests.items batch.room (client_in c old) (client_of c (slot_of k c))) (sym is)
            (subst (λ x. Publishes batch.requests.items batch.room x (client_of c (slot_of core' c))) (sym view)
            (stepping.publishes core c batch.requests.items batch.room lt));
        next = next;
        word = ap (λ (k : FullCore V O R T). (slot_of k c).request_word) is ∙ ap (λ (x : FullSlot V O R T). x.request_word) now ∙ ap not (sym word);
        good = subst (λ k. IsGoodClient kind opening (client_of c (slot_of k c))) (sym is)
            (client_good kind opening core' c opens good (subst (λ n. c < n) (sym (length-set core.slots c new)) lt));
      }

  publishes_at :
      (slots id : ℕ) (v : View V O R T) (y : Content V O R T) (i new : ℕ) → v.trustee ≡ false → v.note ≡ false → v.settled ≡ true → opening_in v ≡ opening
      → (client_in v.place v.past.items).out ≡ None → IsOrderly opening v.place (client_in v.place v.past.items).sent (client_in v.place v.past.items).got (batch_in y).requests.items
      → length (batch_in y).requests.items ≤ MOST_REQUESTS → y.room ≤ MOST_ROOM → HasNoAnswers y → i ≡ r_of v.place → new ≡ 1 - bit (asks v.past.items v.place)
      → Allows (Delegates kind opening) slots id (v, (v.place, y) ∷ []) i (λ _. new) (λ _. publishes kind (step slots i new 0 none) (v, (v.place, y) ∷ []) new)
  unfolding SameElse
  publishes_at slots id v y i new mine plain settled begins none_out orderly most most_gifts clear is flip s r deep at _ =
      let k = r.0 in let h = r.1 in
      let core = core_after k.past in let p = v.place in let slot = slot_of core p in
      let know = h.seats id v at in let own = know.own mine plain in
      let few = h.few in let within = own.inside in
      let inside : p < length s.homes = omega arith in
      let lt : p < length core.slots = subst (λ n. p < n) (sym h.places) inside in
      let free : slot.box ≡ Empty = nothing_out slot.box slot.sent (sym (ap (λ (x : ClientView V O R T). x.out) own.view) ∙ none_out) in
      let batch = batch_in y in
      let items = batch.requests.items in let room = batch.room in
      let core' = publish p items room core in
      let slot' = published items room slot in
      let now : slot_of core' p ≡ slot' = get_or-set_same core.slots p slot' no_slot lt in
      let move : Move V O R T = Publish p batch in
      let past' = k.past ++ move ∷ [] in
      let next : core_after past' ≡ core' = core_next k.past past' move refl in
      let good = publish_keeps_good kind opening core p items room (record { in_range = lt; is_empty = free; most = most; most_gifts = most_gifts })
      (subst (λ (x : ClientView V O R T). IsOrderly opening p x.sent x.got items) own.view orderly) h.good in
      let w : View V O R T = record v { past = listed past' } in
      let k' : Course V O R T = record k { past = past' } in
      let hs = slice_set s.homes p (some y) in
      let wide = h.wide in
      let word : new ≡ bit slot'.request_word = flip ∙ ap (λ b. 1 - bit b) own.word ∙ sym (flips slot.request_word) in
      let else : (d : ℕ) → d ≢ p → slot_of core' d ≡ slot_of core d = λ d ne. stepping.other_slot core p d slot' ne in
      let here : Knows opening core' k' id w = record {
        noted = know.noted;
        opening_is = know.opening_is;
        log = λ t. absurd (off (sym t ∙ mine));
        own = λ _ _. record {
          number = own.number;
          inside = own.inside;
          view = ap (λ (c : FullCore V O R T). client_of p (slot_of c p)) next;
          word = ap (λ (c : FullCore V O R T). (slot_of c p).request_word) next;
          settled = own.settled;
          calls = all_own (IsByClient p) past';
        };
      } in
      let others : (j : ℕ) (u : View V O R T) → j ≢ id → get_elem? s.views j ≡ some u → Knows opening core' k' j u =
      λ j u apart there. after_client opening core core' k past' p j u else (prefix_self core.log) (stepping.publish_trustee core p items room free)
      (λ d. elim (cases_eq d p) [
        | inl e ↦ subst (λ c. (slot_of core' c).response_word ≡ (slot_of core c).response_word) (sym e) (ap (λ (x : FullSlot V O R T). x.response_word) now)
        | inr ne ↦ ap (λ (x : FullSlot V O R T). x.response_word) (else d ne)
      ])
      (λ c front ne. all_more (IsByClient c) front k.past move (λ e. ne (sym e)))
      (λ front. all_more IsByTrustee front k.past move (λ e. e))
      (λ z. apart (z ∙ sym own.number)) (h.seats j u there) in (
        w,
        gives,
        tt,
        delegates kind opening k' core' _ next (moved kind opening s core core' k past' k.up p (slice_set s.words i new) hs id w h
            (come_next k.past move (first_core 0) h.calls free) good (length-set core.slots p slot') else (λ d ne. refl)
            (λ c l was. let e = else c (λ z. omega arith) in
            untouched_on core core' k past' k.up c (ap (λ (x : FullSlot V O R T). client_of c x) e) (ap (λ (x : FullSlot V O R T). x.request_word) e)
            (all_snoc (λ m. IsByClient c m → ⊥) k.past move was.calls (λ z. omega arith)) was)
            (length-set s.words i new) (length-set s.homes p (some y))
            (λ d ne. (get_or-set_other s.words i (r_of d) new 0 (λ z. ne (omega arith)), get_or-set_other s.words i (s_of d) new 0 (λ z. omega arith))) (
              subst (λ (z : ℕ). slice_index_or (slice_set s.words i new) z 0 ≡ new) is (get_or-set_same s.words i new 0 (omega arith)) ∙ word ∙ ap (λ (x : FullSlot V O R T). bit x.request_word) (sym now),
              get_or-set_other s.words i (s_of p) new 0 (λ z. omega arith) ∙ h.responses p inside ∙ ap (λ (x : FullSlot V O R T). bit x.response_word) (sym now),
            )
            (λ d ne. set_else s.homes p d (some y) ne) (
              some y,
              set_here s.homes p (some y) inside,
              subst (λ (x : FullSlot V O R T). IsHome (k.held p) (k.up == p + 1) (some y) x.box) (sym now) (y, refl, (refl, refl, clear)),
            )
            here others),
        λ y' e. (
          past',
          refl,
          subst (λ o. HasPublished kind o p (batch_in y') v.past.items past') (sym begins)
              (subst (λ z. HasPublished kind opening p (batch_in z) v.past.items past') (same_content y y' p p [] [] (one_content p y) refl e)
              (publishes_to core p batch v.past.items past' h.opens good lt own.view own.word next (next_call (IsByClient p) v.past.items k.past move own.calls))),
        ),
      )

  pub publishes_as :
      (slots id : ℕ) (m : Sat V O R T) (v : View V O R T) (y : Content V O R T) (i new : ℕ) → m ≡ (v, (v.place, y) ∷ []) → v.trustee ≡ false → v.note ≡ false → v.settled ≡ true → opening_in v ≡ opening
      → (client_in v.place v.past.items).out ≡ None → IsOrderly opening v.place (client_in v.place v.past.items).sent (client_in v.place v.past.items).got (batch_in y).requests.items
      → length (batch_in y).requests.items ≤ MOST_REQUESTS → y.room ≤ MOST_ROOM → HasNoAnswers y → i ≡ r_of v.place → new ≡ 1 - bit (asks v.past.items v.place)
      → Allows (Delegates kind opening) slots id m i (λ _. new) (λ _. publishes kind (step slots i new 0 none) m new)
  publishes_as slots id m v y i new e mine plain settled begins none_out orderly most most_gifts clear is flip =
      subst (λ (z : Sat V O R T). Allows (Delegates kind opening) slots id z i (λ _. new) (λ _. publishes kind (step slots i new 0 none) z new)) (sym e)
      (publishes_at slots id v y i new mine plain settled begins none_out orderly most most_gifts clear is flip)
