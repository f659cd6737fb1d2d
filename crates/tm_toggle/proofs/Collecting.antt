-- A look of a client keeps the rule.
use Rattle.std.proofs.Common.{◌≡◌, ◌≢◌, ℕ, ◌+◌, ◌<◌, ◌==◌, Bool, false, true, List, [], ◌∷◌, ◌++◌, length, slice_index_or, slice_set, inl, inr, refl, sym, ◌∙◌, ap, subst, arith, length-set, get_or-set_same}
use Rattle.std.specs.declared.option.Option.TheVariants.{None, Some}
use Rattle.std.proofs.lemmas.Bool.{cases_eq}
use mathlib.Core.Logic.{dite}
use mathlib.Core.Option.{some, none}
use mathlib.Core.Option as maybe
use native.Mathlib.Decide.{ℕ_discrete}
use lib.ListN.{get_elem?}
use Rattle.atomic_table.specs.Table.{State as TableState, step, keeps, takes, Allows}
use Rattle.atomic_table.proofs.Lists.{set_here, set_else}
use Rattle.tm_seq.specs.Kind.{Kind}
use Rattle.tm_batch.specs.declared.message.AnswerBatch.{AnswerBatch}
use Rattle.tm_model.specs.State.{State}
use Rattle.tm_model.specs.declared.entry.Entry.{Entry}
use Rattle.tm_model.specs.Slots.{Empty, Answered, no_slot, slot_of, collect, collected, is_answered, looked, first_core}
use Rattle.tm_model.specs.Good.{FullBox, FullSlot, FullCore, IsGood}
use Rattle.tm_model.specs.Laws.{IsOpening}
use Rattle.tm_core.proofs.Accounts.{collect_keeps_good}
use Rattle.tm_pair.specs.Views.{BatchView, ClientView}
use Rattle.tm_pair.specs.Calls.{Collects}
use Rattle.tm_pair.specs.Sides.{IsGoodClient}
use Rattle.tm_pair.specs.SideViews.{client_of}
use Rattle.tm_pair.specs.Moves.{core_after, answers_found, FindsAnswered}
use Rattle.tm_pair.specs.declared.moves.Move.{Move}
use Rattle.tm_pair.specs.declared.moves.Move.TheVariants.{Collect}
use Rattle.tm_pair.specs.declared.table.Collected.{Collected}
use Rattle.tm_pair.specs.declared.table.Collected.TheVariants.{Answers, Pending, Idle}
use Rattle.tm_pair.proofs.Standing.{client_good}
use Rattle.tm_pair.proofs.Calling.{core_next}
use Rattle.tm_pair.proofs.Stepping as stepping
use Rattle.tm_toggle.specs.Contents.{answers_in, HasNoRequests}
use Rattle.tm_toggle.specs.Ruled.{listed, s_of, bit, opening_in, client_in, IsByClient, IsByTrustee, IsNext, IsHome, Course, Knows, Stands, Delegates}
use Rattle.tm_toggle.specs.Plays.{Sat, asks, HasCollected, collects}
use Rattle.tm_toggle.specs.declared.content.Content.{Content}
use Rattle.tm_toggle.specs.declared.view.View.{View}
use Rattle.tm_toggle.proofs.Facts.{off, same_bit, all_snoc, all_more, all_own, next_call, come_next, prefix_self}
use Rattle.tm_toggle.proofs.Boxes.{not_empty, is_back, not_back, collected_words, collected_box}
use Rattle.tm_toggle.proofs.Keeps.{SameElse, after_client, untouched_on, moved, loaded, delegates}

pending_is_no_idle : {V O R T : Type 0} → (◌≢◌ {A = Collected V O R T} Pending Idle)
pending_is_no_idle e = absurd cc

answers_are_no_idle : {V O R T : Type 0} (a : AnswerBatch V O R T) → (◌≢◌ {A = Collected V O R T} (Answers a) Idle)
answers_are_no_idle a e = absurd cc

module _ {V O R T : Type 0} (kind : Kind V O R T) (opening : State V O R T) where
  -- what a look of place p tells
  collects_to :
      (core : FullCore V O R T) (c : ℕ) (found : Collected V O R T) (old past : List (Move V O R T))
      → IsOpening opening → IsGood kind opening core → c < length core.slots
      → stepping.IsLook found (slot_of core c).box
      → client_in c old ≡ client_of c (slot_of core c) → asks old c ≡ (slot_of core c).request_word
      → core_after past ≡ collect c core → IsNext (IsByClient c) old past (Collect c (answers_found found))
      → HasCollected kind opening c found old past
  collects_to core c found old past opens good lt looks view word is next =
      let slot = slot_of core c in
      let core' = collect c core in
      let slot' = stepping.looked_at slot in
      let look : FullSlot V O R T = record slot { client = looked (is_answered slot.box) slot.client } in
      let now : slot_of core' c ≡ slot' = get_or-set_same core.slots c slot' no_slot lt in
      record {
        collects = subst (λ k. Collects (client_in c old) (client_of c (slot_of k c)) found) (sym is)
            (subst (λ x. Collects x (client_of c (slot_of core' c)) found) (sym view)
            (stepping.collects opening core c found lt looks (good.accounts c lt).out));
        next = next;
        word = ap (λ (k : FullCore V O R T). (slot_of k c).request_word) is ∙ ap (λ (x : FullSlot V O R T). x.request_word) now
            ∙ (collected_words slot.box look).0 ∙ sym word;
        good = subst (λ k. IsGoodClient kind opening (client_of c (slot_of k c))) (sym is)
            (client_good kind opening core' c opens (collect_keeps_good kind opening core c lt good) (subst (λ n. c < n) (sym (length-set core.slots c slot')) lt));
      }

  -- a look of place p keeps the rule, whatever becomes of its slot
  looks_on :
      (s : TableState (Content V O R T) (View V O R T)) (k : Course V O R T) (id : ℕ) (v : View V O R T) (found : Collected V O R T) (hs : List (maybe.Option (Content V O R T)))
      → Stands kind opening (core_after k.past) k s → get_elem? s.views id ≡ some v → v.trustee ≡ false → v.note ≡ false
      → FindsAnswered (answers_found found) (slot_of (core_after k.past) v.place).box
      → length hs ≡ length s.homes → ((d : ℕ) → d ≢ v.place → get_elem? hs d ≡ get_elem? s.homes d)
      → (home : maybe.Option (Content V O R T)) × (get_elem? hs v.place ≡ some home)
      × IsHome (k.held v.place) (k.up == v.place + 1) home (stepping.looked_at (slot_of (core_after k.past) v.place)).box
      → Delegates kind opening record {
        words = s.words;
        homes = hs;
        views = slice_set s.views id (record v { past = listed (k.past ++ Collect v.place (answers_found found) ∷ []) });
      }
  unfolding SameElse
  looks_on s k id v found hs h at mine plain finds deep else_home home =
      let core = core_after k.past in let p = v.place in let slot = slot_of core p in
      let know = h.seats id v at in let own = know.own mine plain in
      let few = h.few in let within = own.inside in
      let inside : p < length s.homes = omega arith in
      let lt : p < length core.slots = subst (λ n. p < n) (sym h.places) inside in
      let core' = collect p core in
      let slot' = stepping.looked_at slot in
      let look : FullSlot V O R T = record slot { client = looked (is_answered slot.box) slot.client } in
      let now : slot_of core' p ≡ slot' = get_or-set_same core.slots p slot' no_slot lt in
      let move : Move V O R T = Collect p (answers_found found) in
      let past' = k.past ++ move ∷ [] in
      let next : core_after past' ≡ core' = core_next k.past past' move refl in
      let good = collect_keeps_good kind opening core p lt h.good in
      let w : View V O R T = record v { past = listed past' } in
      let k' : Course V O R T = record k { past = past' } in
      let words = collected_words slot.box look in
      let else : (d : ℕ) → d ≢ p → slot_of core' d ≡ slot_of core d = λ d ne. stepping.other_slot core p d slot' ne in
      let here : Knows opening core' k' id w = record {
        noted = know.noted;
        opening_is = know.opening_is;
        log = λ t. absurd (off (sym t ∙ mine));
        own = λ _ _. record {
          number = own.number;
          inside = own.inside;
          view = ap (λ (c : FullCore V O R T). client_of p (slot_of c p)) next;
          word = ap (λ (c : FullCore V O R T). (slot_of c p).request_word) next;
          settled = own.settled;
          calls = all_own (IsByClient p) past';
        };
      } in
      let others : (j : ℕ) (u : View V O R T) → j ≢ id → get_elem? s.views j ≡ some u → Knows opening core' k' j u =
      λ j u apart there. after_client opening core core' k past' p j u else (prefix_self core.log) (stepping.collect_trustee core p)
      (λ d. elim (cases_eq d p) [
        | inl e ↦ subst (λ c. (slot_of core' c).response_word ≡ (slot_of core c).response_word) (sym e) (ap (λ (x : FullSlot V O R T). x.response_word) now ∙ words.1)
        | inr ne ↦ ap (λ (x : FullSlot V O R T). x.response_word) (else d ne)
      ])
      (λ c front ne. all_more (IsByClient c) front k.past move (λ e. ne (sym e)))
      (λ front. all_more IsByTrustee front k.past move (λ e. e))
      (λ z. apart (z ∙ sym own.number)) (h.seats j u there) in
      delegates kind opening k' core' _ next (moved kind opening s core core' k past' k.up p s.words hs id w h
      (come_next k.past move (first_core 0) h.calls finds) good (length-set core.slots p slot') else (λ d ne. refl)
      (λ c l was. let e = else c (λ z. omega arith) in
      untouched_on core core' k past' k.up c (ap (λ (x : FullSlot V O R T). client_of c x) e) (ap (λ (x : FullSlot V O R T). x.request_word) e)
      (all_snoc (λ m. IsByClient c m → ⊥) k.past move was.calls (λ z. omega arith)) was)
      refl deep (λ d ne. (refl, refl)) (
        h.requests p inside ∙ ap bit (sym words.0) ∙ ap (λ (x : FullSlot V O R T). bit x.request_word) (sym now),
        h.responses p inside ∙ ap bit (sym words.1) ∙ ap (λ (x : FullSlot V O R T). bit x.response_word) (sym now),
      )
      else_home (
        home.0,
        home.1,
        subst (λ (x : FullSlot V O R T). IsHome (k.held p) (k.up == p + 1) home.0 x.box) (sym now) home.2,
      )
      here others)

  -- what stands in the slot of a box whose answers are back
  back_home :
      (held up : Bool) (home : maybe.Option (Content V O R T)) (box : FullBox V O R T) (a : AnswerBatch V O R T) (upto : List (Entry V O R T)) (room : ℕ)
      → IsHome held up home box → box ≡ Answered a upto room → (y : Content V O R T) × (home ≡ some y) × (answers_in y ≡ a) × HasNoRequests y
  back_home held up home box a upto room h e = let t = subst (λ (x : FullBox V O R T). IsHome held up home x) e h in (t.0, t.1, t.2.0, t.2.1)

  out_home : (held up : Bool) (box : FullBox V O R T) → box ≡ Empty → held ≡ true → IsHome held up none box
  out_home held up box e have =
      let t : FullBox V O R T = Empty in
      let away : IsHome true up none t = refl in
      subst (λ (x : FullBox V O R T). IsHome held up none x) (sym e) (subst (λ b. IsHome b up none t) (sym have) away)

  collects_at :
      (slots id : ℕ) (v : View V O R T) (i : ℕ) (batch : BatchView V O R T) → v.trustee ≡ false → v.note ≡ false → v.settled ≡ true → opening_in v ≡ opening
      → (client_in v.place v.past.items).out ≡ Some batch → i ≡ s_of v.place
      → Allows (Delegates kind opening) slots id (v, []) i (λ n. n) (collects kind (step slots i 0 0 none) (v, []))
  collects_at slots id v i batch mine plain settled begins out is s r deep at _ =
      let k = r.0 in let h = r.1 in
      let core = core_after k.past in let p = v.place in let slot = slot_of core p in
      let own = (h.seats id v at).own mine plain in
      let few = h.few in let within = own.inside in
      let inside : p < length s.homes = omega arith in
      let lt : p < length core.slots = subst (λ n. p < n) (sym h.places) inside in
      let found : slice_index_or s.words i 0 ≡ bit slot.response_word = ap (λ (z : ℕ). slice_index_or s.words z 0) is ∙ h.responses p inside in
      let ne = not_empty slot.box slot.sent batch (sym (ap (λ (x : ClientView V O R T). x.out) own.view) ∙ out) in
      let agrees = (h.good.slots.slots p lt).agrees in
      let look : FullSlot V O R T = record slot { client = looked (is_answered slot.box) slot.client } in
      let was = h.homes p inside in
      dite (ℕ_discrete (slice_index_or s.words i 0) (bit (asks v.past.items p)))
      (λ eq.
      let same : slot.request_word ≡ slot.response_word = same_bit slot.request_word slot.response_word (ap bit (sym own.word) ∙ sym eq ∙ found) in
      let t = is_back kind opening slot.box slot p core.log ne same agrees in
      let box : slot.box ≡ Answered t.0 t.1 t.2 = t.3 in
      let home = back_home (k.held p) (k.up == p + 1) was.0 slot.box t.0 t.1 t.2 was.2 box in
      let y = home.0 in
      let back : slot.box ≡ Answered (answers_in y) t.1 t.2 = box ∙ ap (λ a. Answered a t.1 t.2) (sym home.2) in
      let finds : FindsAnswered (Some (answers_in y)) slot.box = (t.1, t.2, back) in
      let free : (stepping.looked_at slot).box ≡ Empty = ap (λ (x : FullBox V O R T). (collected x (record slot { client = looked (is_answered x) slot.client })).box) back in
      let hs : List (maybe.Option (Content V O R T)) = slice_set s.homes p none in
      let past' = k.past ++ Collect p (Some (answers_in y)) ∷ [] in
      let next = core_next k.past past' (Collect p (Some (answers_in y))) refl in (
        record v { past = listed past' },
        takes p y,
        was.1 ∙ ap some home.1,
        loaded kind opening s i hs (slice_set s.views id (record v { past = listed past' })) (looks_on s k id v (Answers (answers_in y)) hs h at mine plain finds
            (length-set s.homes p none) (λ d other. set_else s.homes p d none other)
            (none, set_here s.homes p none inside, out_home (k.held p) (k.up == p + 1) (stepping.looked_at slot).box free (own.settled ∙ settled))),
        (
          λ _. (
            past',
            y,
            refl,
            home.3,
            subst (λ o. HasCollected kind o p (Answers (answers_in y)) v.past.items past') (sym begins)
                (collects_to core p (Answers (answers_in y)) v.past.items past' h.opens h.good lt (ne, answers_are_no_idle (answers_in y), finds) own.view own.word next
                (next_call (IsByClient p) v.past.items k.past (Collect p (Some (answers_in y))) own.calls)),
          ),
          λ other. absurd (other eq),
        ),
      ))
      (λ other.
      let apart : slot.request_word ≢ slot.response_word = λ e. other (found ∙ ap bit (sym e) ∙ ap bit (sym own.word)) in
      let none_back = not_back kind opening slot.box slot p core.log apart agrees in
      let kept : (stepping.looked_at slot).box ≡ slot.box = collected_box slot.box look none_back refl in
      let past' = k.past ++ Collect p None ∷ [] in
      let next = core_next k.past past' (Collect p None) refl in (
        record v { past = listed past' },
        keeps,
        tt,
        loaded kind opening s i s.homes (slice_set s.views id (record v { past = listed past' })) (looks_on s k id v Pending s.homes h at mine plain none_back
            refl (λ d ne. refl) (was.0, was.1, subst (λ (x : FullBox V O R T). IsHome (k.held p) (k.up == p + 1) was.0 x) (sym kept) was.2)),
        (
          λ eq. absurd (other eq),
          λ _. (
            past',
            refl,
            subst (λ o. HasCollected kind o p Pending v.past.items past') (sym begins)
                (collects_to core p Pending v.past.items past' h.opens h.good lt (ne, pending_is_no_idle, none_back) own.view own.word next
                (next_call (IsByClient p) v.past.items k.past (Collect p None) own.calls)),
          ),
        ),
      ))

  pub collects_as :
      (slots id : ℕ) (m : Sat V O R T) (i : ℕ) (batch : BatchView V O R T) → m.1 ≡ [] → m.0.trustee ≡ false → m.0.note ≡ false → m.0.settled ≡ true → opening_in m.0 ≡ opening
      → (client_in m.0.place m.0.past.items).out ≡ Some batch → i ≡ s_of m.0.place
      → Allows (Delegates kind opening) slots id m i (λ n. n) (collects kind (step slots i 0 0 none) m)
  collects_as slots id m i batch e mine plain settled begins out is =
      subst (λ (z : List (ℕ × Content V O R T)). Allows (Delegates kind opening) slots id (m.0, z) i (λ n. n) (collects kind (step slots i 0 0 none) (m.0, z))) (sym e)
      (collects_at slots id m.0 i batch mine plain settled begins out is)
