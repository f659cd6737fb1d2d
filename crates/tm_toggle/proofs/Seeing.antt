-- A look of the trustee keeps the rule.
use Rattle.std.proofs.Common.{◌≡◌, ◌≢◌, ℕ, ◌+◌, ◌<◌, ◌==◌, Bool, false, true, List, [], ◌∷◌, ◌++◌, length, slice_index_or, slice_set, inl, inr, refl, sym, ◌∙◌, ap, subst, arith, length-set, get_or-set_same, eq-eqb, ne_eqb}
use Rattle.std.specs.declared.option.Option.{Option as RustOption}
use Rattle.std.specs.declared.option.Option.TheVariants.{None, Some}
use Rattle.std.proofs.lemmas.Bool.{cases_eq}
use mathlib.Core.Logic.{dite}
use mathlib.Core.Option.{some, none}
use mathlib.Core.Option as maybe
use native.Mathlib.Decide.{ℕ_discrete}
use lib.ListN.{get_elem?}
use Rattle.atomic_table.specs.Table.{State as TableState, step, keeps, takes, Allows}
use Rattle.atomic_table.proofs.Lists.{set_here, set_else}
use Rattle.tm_seq.specs.Kind.{Kind}
use Rattle.tm_batch.specs.declared.batch.Batch.{Batch}
use Rattle.tm_batch.specs.declared.message.Request.{Request}
use Rattle.tm_model.specs.State.{State}
use Rattle.tm_model.specs.Slots.{Asked, Taken, no_slot, slot_of, see, taken, is_asked, first_core}
use Rattle.tm_model.specs.Good.{FullBox, FullSlot, FullCore, IsGood}
use Rattle.tm_model.specs.Laws.{IsOpening}
use Rattle.tm_core.proofs.Accounts.{see_keeps_good}
use Rattle.tm_core.proofs.Promised.{batches_are_promised}
use Rattle.tm_pair.specs.Views.{TrusteeView, hand_of}
use Rattle.tm_pair.specs.Calls.{SeesNothing, Takes}
use Rattle.tm_pair.specs.Sides.{IsGoodTrustee}
use Rattle.tm_pair.specs.SideViews.{hand_in, client_of, trustee_of}
use Rattle.tm_pair.specs.Moves.{core_after, FindsAsked}
use Rattle.tm_pair.specs.declared.moves.Move.{Move}
use Rattle.tm_pair.specs.declared.moves.Move.TheVariants.{See}
use Rattle.tm_pair.proofs.Standing.{trustee_good, hand_at}
use Rattle.tm_pair.proofs.Calling.{core_next}
use Rattle.tm_pair.proofs.Stepping as stepping
use Rattle.tm_toggle.specs.Contents.{batch_in, HasNoAnswers}
use Rattle.tm_toggle.specs.Ruled.{listed, r_of, bit, opening_in, trustee_in, IsByClient, IsByTrustee, IsNext, IsHome, Course, Knows, Stands, Delegates}
use Rattle.tm_toggle.specs.Plays.{Sat, replies, HasMissed, HasTaken, SeesAt, sees}
use Rattle.tm_toggle.specs.declared.content.Content.{Content}
use Rattle.tm_toggle.specs.declared.view.View.{View}
use Rattle.tm_toggle.proofs.Facts.{off, same_r, same_bit, all_snoc, all_more, all_own, next_call, come_next, prefix_self}
use Rattle.tm_toggle.proofs.Boxes.{is_out, not_out}
use Rattle.tm_toggle.proofs.Keeps.{SameClients, SameElse, after_trustee, untouched_on, moved, loaded, delegates}

module _ {V O R T : Type 0} where
  -- what a look leaves of the words
  seen_words :
      (core : FullCore V O R T) (c d : ℕ) → c < length core.slots
      → ((slot_of (see c core) d).request_word ≡ (slot_of core d).request_word) × ((slot_of (see c core) d).response_word ≡ (slot_of core d).response_word)
  seen_words core c d lt =
      let slot' = stepping.seen_slot (slot_of core c) in
      let now : slot_of (see c core) c ≡ slot' = get_or-set_same core.slots c slot' no_slot lt in
      elim (cases_eq d c) [
        | inl e ↦ subst (λ k. ((slot_of (see c core) k).request_word ≡ (slot_of core k).request_word) × ((slot_of (see c core) k).response_word ≡ (slot_of core k).response_word)) (sym e)
            (ap (λ (x : FullSlot V O R T). x.request_word) now, ap (λ (x : FullSlot V O R T). x.response_word) now)
        | inr ne ↦ let e = stepping.other_slot core c d slot' ne in (ap (λ (x : FullSlot V O R T). x.request_word) e, ap (λ (x : FullSlot V O R T). x.response_word) e)
      ]

  -- what stands in the slot of a box that was asked
  asked_home :
      (held up : Bool) (home : maybe.Option (Content V O R T)) (box : FullBox V O R T) (b : List (Request V O R T)) (room : ℕ)
      → IsHome held up home box → box ≡ Asked b room
      → (y : Content V O R T) × (home ≡ some y) × ((batch_in y).requests.items ≡ b) × (y.room ≡ room) × HasNoAnswers y
  asked_home held up home box b room h e = let t = subst (λ (x : FullBox V O R T). IsHome held up home x) e h in (t.0, t.1, t.2.0, t.2.1, t.2.2)

  lifted_home : (held up : Bool) (box : FullBox V O R T) (b : List (Request V O R T)) (room : ℕ) → box ≡ Taken b room → up ≡ true → IsHome held up none box
  lifted_home held up box b room e high =
      let t : FullBox V O R T = Taken b room in
      let away : IsHome held true none t = refl in
      subst (λ (x : FullBox V O R T). IsHome held up none x) (sym e) (subst (λ z. IsHome held z none t) (sym high) away)

module _ {V O R T : Type 0} (kind : Kind V O R T) (opening : State V O R T) where
  sees_good :
      (core : FullCore V O R T) (c : ℕ) (past : List (Move V O R T)) → IsOpening opening → IsGood kind opening core → c < length core.slots
      → core_after past ≡ see c core → IsGoodTrustee kind opening (trustee_in past)
  sees_good core c past opens good lt is =
      subst (λ k. IsGoodTrustee kind opening (trustee_of k)) (sym is) (trustee_good kind opening (see c core) opens (see_keeps_good kind opening core c lt good))

  sees_words :
      (core : FullCore V O R T) (c : ℕ) (old past : List (Move V O R T)) → c < length core.slots → core_after past ≡ see c core
      → ((d : ℕ) → replies old d ≡ (slot_of core d).response_word) → (d : ℕ) → replies past d ≡ replies old d
  sees_words core c old past lt is words d = ap (λ (k : FullCore V O R T). (slot_of k d).response_word) is ∙ (seen_words core c d lt).1 ∙ sym (words d)

  misses_to :
      (core : FullCore V O R T) (c : ℕ) (old past : List (Move V O R T)) → IsOpening opening → IsGood kind opening core → c < length core.slots
      → is_asked (slot_of core c).box ≡ false → trustee_in old ≡ trustee_of core → ((d : ℕ) → replies old d ≡ (slot_of core d).response_word)
      → core_after past ≡ see c core → IsNext IsByTrustee old past (See c None)
      → HasMissed kind opening c old past
  misses_to core c old past opens good lt finds view words is next = record {
    sees = subst (λ k. SeesNothing c (trustee_in old) (trustee_of k)) (sym is)
        (subst (λ x. SeesNothing c x (trustee_of (see c core))) (sym view)
        (stepping.sees kind opening core c None finds (λ b room asked. (batches_are_promised kind opening core c b room opens good lt).0 asked)));
    next = next;
    words = sees_words core c old past lt is words;
    good = sees_good core c past opens good lt is;
  }

  takes_to :
      (core : FullCore V O R T) (c : ℕ) (batch : Batch V O R T) (old past : List (Move V O R T)) → IsOpening opening → IsGood kind opening core → c < length core.slots
      → (slot_of core c).box ≡ Asked batch.requests.items batch.room → trustee_in old ≡ trustee_of core → ((d : ℕ) → replies old d ≡ (slot_of core d).response_word)
      → core_after past ≡ see c core → IsNext IsByTrustee old past (See c (Some batch))
      → HasTaken kind opening c batch old past
  takes_to core c batch old past opens good lt finds view words is next = record {
    takes = subst (λ k. Takes kind opening c batch.requests.items batch.room (trustee_in old) (trustee_of k)) (sym is)
        (subst (λ x. Takes kind opening c batch.requests.items batch.room x (trustee_of (see c core))) (sym view)
        (stepping.sees kind opening core c (Some batch) finds (λ b room asked. (batches_are_promised kind opening core c b room opens good lt).0 asked)));
    next = next;
    words = sees_words core c old past lt is words;
    good = sees_good core c past opens good lt is;
  }

  -- a look at place c keeps the rule, whatever becomes of its slot
  looks_on :
      (s : TableState (Content V O R T) (View V O R T)) (k : Course V O R T) (id : ℕ) (v : View V O R T) (c up' : ℕ) (found : RustOption (Batch V O R T))
      (hs : List (maybe.Option (Content V O R T)))
      → Stands kind opening (core_after k.past) k s → get_elem? s.views id ≡ some v → v.trustee ≡ true → c < length s.homes
      → FindsAsked found (slot_of (core_after k.past) c).box → ((d : ℕ) → d ≢ c → (k.up == d + 1) ≡ (up' == d + 1))
      → length hs ≡ length s.homes → ((d : ℕ) → d ≢ c → get_elem? hs d ≡ get_elem? s.homes d)
      → (home : maybe.Option (Content V O R T)) × (get_elem? hs c ≡ some home) × IsHome (k.held c) (up' == c + 1) home (stepping.seen_slot (slot_of (core_after k.past) c)).box
      → Delegates kind opening record {
        words = s.words;
        homes = hs;
        views = slice_set s.views id (record v { past = listed (k.past ++ See c found ∷ []); up = up' });
      }
  unfolding SameClients SameElse
  looks_on s k id v c up' found hs h at all inside finds ups deep else_home home =
      let core = core_after k.past in let slot = slot_of core c in
      let know = h.seats id v at in let own = know.log all in
      let lt : c < length core.slots = subst (λ n. c < n) (sym h.places) inside in
      let core' = see c core in
      let slot' = stepping.seen_slot slot in
      let now : slot_of core' c ≡ slot' = get_or-set_same core.slots c slot' no_slot lt in
      let move : Move V O R T = See c found in
      let past' = k.past ++ move ∷ [] in
      let next : core_after past' ≡ core' = core_next k.past past' move refl in
      let good = see_keeps_good kind opening core c lt h.good in
      let w : View V O R T = record v { past = listed past'; up = up' } in
      let k' : Course V O R T = record k { past = past'; up = up' } in
      let words = λ (d : ℕ). seen_words core c d lt in
      let same : (d : ℕ) → (client_of d (slot_of core' d) ≡ client_of d (slot_of core d)) × ((slot_of core' d).request_word ≡ (slot_of core d).request_word) =
      λ d. (stepping.see_clients core c d lt, (words d).0) in
      let here : Knows opening core' k' id w = record {
        noted = know.noted;
        opening_is = know.opening_is;
        log = λ _. record {
          number = own.number;
          view = ap (λ (x : FullCore V O R T). trustee_of x) next;
          words = λ d. ap (λ (x : FullCore V O R T). (slot_of x d).response_word) next;
          up_is = refl;
          made = own.made;
          calls = all_own IsByTrustee past';
        };
        own = λ z _. absurd (off (sym all ∙ z));
      } in
      let others : (j : ℕ) (u : View V O R T) → j ≢ id → get_elem? s.views j ≡ some u → Knows opening core' k' j u =
      λ j u apart there. after_trustee opening core core' k past' up' j u same (prefix_self core.log)
      (λ d front. all_more (IsByClient d) front k.past move (λ e. e))
      (λ z. apart (z ∙ sym own.number)) (h.seats j u there) in
      delegates kind opening k' core' _ next (moved kind opening s core core' k past' up' c s.words hs id w h
      (come_next k.past move (first_core 0) h.calls finds) good (length-set core.slots c slot') (λ d ne. stepping.other_slot core c d slot' ne) ups
      (λ d l was. untouched_on core core' k past' up' d (same d).0 (same d).1 (all_snoc (λ m. IsByClient d m → ⊥) k.past move was.calls (λ e. e)) was)
      refl deep (λ d ne. (refl, refl)) (
        h.requests c inside ∙ ap (λ (x : FullSlot V O R T). bit x.request_word) (sym now),
        h.responses c inside ∙ ap (λ (x : FullSlot V O R T). bit x.response_word) (sym now),
      )
      else_home (
        home.0,
        home.1,
        subst (λ (x : FullSlot V O R T). IsHome (k.held c) (up' == c + 1) home.0 x.box) (sym now) home.2,
      )
      here others)

  sees_at :
      (slots id : ℕ) (v : View V O R T) (i c : ℕ) → v.trustee ≡ true → opening_in v ≡ opening → i ≡ r_of c → c < slots
      → hand_of (trustee_in v.past.items) c ≡ None → v.up ≡ 0
      → Allows (Delegates kind opening) slots id (v, []) i (λ n. n) (sees kind (step slots i 0 0 none) (v, []))
  sees_at slots id v i c all begins is near no_hand down s r deep at _ =
      let k = r.0 in let h = r.1 in
      let core = core_after k.past in let slot = slot_of core c in
      let own = (h.seats id v at).log all in
      let inside : c < length s.homes = omega arith in
      let lt : c < length core.slots = subst (λ n. c < n) (sym h.places) inside in
      let found : slice_index_or s.words i 0 ≡ bit slot.request_word = ap (λ (z : ℕ). slice_index_or s.words z 0) is ∙ h.requests c inside in
      let hand : hand_in slot.box ≡ None = sym (hand_at core c) ∙ ap (λ (x : TrusteeView V O R T). hand_of x c) (sym own.view) ∙ no_hand in
      let agrees = (h.good.slots.slots c lt).agrees in
      let was = h.homes c inside in
      let number : ℕ = slice_index_or s.words i 0 in
      let up_is = own.up_is in
      dite (ℕ_discrete number (bit (replies v.past.items c)))
      (λ eq.
      let same : slot.request_word ≡ slot.response_word = same_bit slot.request_word slot.response_word (sym found ∙ eq ∙ ap bit (own.words c)) in
      let kept = not_out kind opening slot.box slot c core.log same agrees in
      let past' = k.past ++ See c None ∷ [] in
      let next = core_next k.past past' (See c None) refl in
      let w : View V O R T = record v { past = listed past' } in (
        w,
        keeps,
        tt,
        loaded kind opening s i s.homes (slice_set s.views id w) (looks_on s k id v c v.up None s.homes h at all inside kept.0 (λ d ne. ap (λ (x : ℕ). x == d + 1) (sym own.up_is))
            refl (λ d ne. refl) (
              was.0,
              was.1,
              subst (λ (x : FullBox V O R T). IsHome (k.held c) (v.up == c + 1) was.0 x) (sym kept.1)
                  (subst (λ (x : ℕ). IsHome (k.held c) (x == c + 1) was.0 slot.box) (sym own.up_is) was.2),
            )),
        λ d z. subst (λ (o : ℕ). SeesAt kind o (v, []) number (w, [])) (same_r c d (sym is ∙ z)) (
          λ _. (
            past',
            refl,
            subst (λ o. HasMissed kind o c v.past.items past') (sym begins)
                (misses_to core c v.past.items past' h.opens h.good lt kept.0 own.view own.words next (next_call IsByTrustee v.past.items k.past (See c None) own.calls)),
          ),
          λ ne. absurd (ne eq),
        ),
      ))
      (λ ne.
      let apart : slot.request_word ≢ slot.response_word = λ e. ne (found ∙ ap bit e ∙ ap bit (sym (own.words c))) in
      let t = is_out kind opening slot.box slot c core.log hand apart agrees in
      let box : slot.box ≡ Asked t.0 t.1 = t.2 in
      let home = asked_home (k.held c) (k.up == c + 1) was.0 slot.box t.0 t.1 was.2 box in
      let y = home.0 in
      let batch = batch_in y in
      let finds : slot.box ≡ Asked batch.requests.items batch.room = box ∙ ap (λ q. Asked q t.1) (sym home.2) ∙ ap (λ m. Asked batch.requests.items m) (sym home.3) in
      let past' = k.past ++ See c (Some batch) ∷ [] in
      let next = core_next k.past past' (See c (Some batch)) refl in
      let w : View V O R T = record v { past = listed past'; up = c + 1 } in
      let hs : List (maybe.Option (Content V O R T)) = slice_set s.homes c none in
      let in_hand : (stepping.seen_slot slot).box ≡ Taken t.0 t.1 = ap (λ (x : FullBox V O R T). taken x) box in (
        w,
        takes c y,
        was.1 ∙ ap some home.1,
        loaded kind opening s i hs (slice_set s.views id w) (looks_on s k id v c (c + 1) (Some batch) hs h at all inside finds
            (λ d other. ne_eqb k.up (d + 1) (λ z. omega arith) ∙ sym (ne_eqb (c + 1) (d + 1) (λ z. other (omega arith))))
            (length-set s.homes c none) (λ d other. set_else s.homes c d none other)
            (none, set_here s.homes c none inside, lifted_home (k.held c) (c + 1 == c + 1) (stepping.seen_slot slot).box t.0 t.1 in_hand (eq-eqb (c + 1) (c + 1) refl))),
        λ d z. subst (λ (o : ℕ). SeesAt kind o (v, []) number (w, (c, y) ∷ [])) (same_r c d (sym is ∙ z)) (
          λ eq. absurd (ne eq),
          λ _. (
            past',
            y,
            refl,
            home.4,
            subst (λ o. HasTaken kind o c batch v.past.items past') (sym begins)
                (takes_to core c batch v.past.items past' h.opens h.good lt finds own.view own.words next (next_call IsByTrustee v.past.items k.past (See c (Some batch)) own.calls)),
          ),
        ),
      ))

  pub sees_as :
      (slots id : ℕ) (m : Sat V O R T) (i c : ℕ) → m.1 ≡ [] → m.0.trustee ≡ true → opening_in m.0 ≡ opening → i ≡ r_of c → c < slots
      → hand_of (trustee_in m.0.past.items) c ≡ None → m.0.up ≡ 0
      → Allows (Delegates kind opening) slots id m i (λ n. n) (sees kind (step slots i 0 0 none) m)
  sees_as slots id m i c e all begins is near no_hand down =
      subst (λ (z : List (ℕ × Content V O R T)). Allows (Delegates kind opening) slots id (m.0, z) i (λ n. n) (sees kind (step slots i 0 0 none) (m.0, z))) (sym e)
      (sees_at slots id m.0 i c all begins is near no_hand down)
