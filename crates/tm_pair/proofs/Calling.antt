-- What calls leave of a core, and when a batch may be answered. Other crates import this file.
use Rattle.std.proofs.Common.{◌≡◌, ℕ, ◌<◌, List, [], ◌∷◌, ◌++◌, length, map, refl, sym, ◌∙◌, ap, subst}
use Rattle.std.specs.Prelude.{IsSomeAnd}
use Rattle.std.specs.declared.option.Option.{Option}
use Rattle.std.specs.declared.option.Option.TheVariants.{None, Some}
use Rattle.std.proofs.Math.ListN.{replicate, get_or-replicate}
use Rattle.tm_seq.specs.Kind.{Kind}
use Rattle.tm_batch.specs.declared.message.Request.{Request}
use Rattle.tm_batch.specs.declared.message.AnswerBatch.{AnswerBatch}
use Rattle.tm_model.specs.declared.entry.Entry.{Entry}
use Rattle.tm_model.specs.State.{State}
use Rattle.tm_model.specs.Slots.{Empty, Asked, Taken, Answered, no_slot, slot_of, first_core}
use Rattle.tm_model.specs.Good.{FullBox, FullSlot, FullCore}
use Rattle.tm_model.specs.Answering.{MayGrow, answer_with}
use Rattle.tm_pair.specs.Views.{BatchView, TrusteeView, hand_of, new_client, new_trustee}
use Rattle.tm_pair.specs.Calls.{OnLook}
use Rattle.tm_pair.specs.SideViews.{batch_out, hand_in, client_of, trustee_of}
use Rattle.tm_pair.specs.Moves.{answer_taken, after_move, after_moves, core_after, answers_found}
use Rattle.tm_pair.specs.declared.table.Collected.{Collected}
use Rattle.tm_pair.specs.declared.table.Collected.TheVariants.{Answers, Pending, Idle}
use Rattle.tm_pair.specs.declared.moves.Move.{Move}
use Rattle.tm_pair.proofs.Lists.{of_some, map-replicate}
use Rattle.tm_pair.proofs.Standing.{is_in_hand, hand_at, hand_in_range}
use Rattle.tm_pair.proofs.Stepping.{IsLook}

module _ {V O R T : Type 0} where
  after-append : (xs ys : List (Move V O R T)) (core : FullCore V O R T) → after_moves (xs ++ ys) core ≡ after_moves ys (after_moves xs core)
  after-append [] ys core = refl
  after-append (x ∷ xs) ys core = after-append xs ys (after_move x core)

  -- one call more
  pub core_next : (past items : List (Move V O R T)) (move : Move V O R T) → items ≡ past ++ move ∷ [] → core_after items ≡ after_move move (core_after past)
  core_next past items move e = ap (λ l. core_after l) e ∙ after-append past (move ∷ []) (first_core 0)

  -- an answer of a batch that is taken
  pub answer_is :
      (box : FullBox V O R T) (c : ℕ) (b : List (Request V O R T)) (room : ℕ) (resumes : List (Entry V O R T)) (a : AnswerBatch V O R T) (core : FullCore V O R T)
      → box ≡ Taken b room → answer_taken box c resumes a core ≡ answer_with c b room resumes a core
  answer_is box c b room resumes a core e = ap (λ (x : FullBox V O R T). answer_taken x c resumes a core) e

  -- nothing of a place is out exactly where its slot is empty
  pub nothing_out : (box : FullBox V O R T) (sent : List (Request V O R T)) → batch_out box sent ≡ None → box ≡ Empty
  nothing_out Empty sent e = refl
  nothing_out (Asked b room) sent e = absurd cc
  nothing_out (Taken b room) sent e = absurd cc
  nothing_out (Answered a upto room) sent e = absurd cc

  -- a look that finds what stands in a slot that is not empty is one
  pub looked_on :
      (found : Collected V O R T) (box : FullBox V O R T) (idle : Type 0) (looked : Option (AnswerBatch V O R T) → Type 0)
      → IsLook found box → looked (answers_found found) → OnLook found idle looked
  looked_on Idle box idle looked looks h = absurd (looks.1 refl)
  looked_on Pending box idle looked looks h = h
  looked_on (Answers a) box idle looked looks h = h

  -- the batch that the trustee may answer
  pub may_be_answered :
      (kind : Kind V O R T) (opening : State V O R T) (core : FullCore V O R T) (view : TrusteeView V O R T) (c : ℕ) (resumes : List (Entry V O R T))
      (a : AnswerBatch V O R T) → view ≡ trustee_of core
      → IsSomeAnd (hand_of view c) (λ hand. MayGrow kind opening view.log resumes c hand.requests hand.room a)
      → (hand : BatchView V O R T) × (hand_of view c ≡ Some hand) × (hand_of (trustee_of core) c ≡ Some hand) × (c < length core.slots)
      × ((slot_of core c).box ≡ Taken hand.requests hand.room) × MayGrow kind opening core.log resumes c hand.requests hand.room a
  may_be_answered kind opening core view c resumes a e may =
      let (hand, is, grows) = of_some (hand_of view c) (λ hand. MayGrow kind opening view.log resumes c hand.requests hand.room a) may in
      let there : hand_of (trustee_of core) c ≡ Some hand = ap (λ (v : TrusteeView V O R T). hand_of v c) (sym e) ∙ is in
      let boxed : hand_in (slot_of core c).box ≡ Some hand = sym (hand_at core c) ∙ there in (
        hand,
        is,
        there,
        hand_in_range core c hand boxed,
        is_in_hand (slot_of core c).box hand boxed,
        subst (λ (v : TrusteeView V O R T). MayGrow kind opening v.log resumes c hand.requests hand.room a) e grows,
      )

module _ {V O R T : Type 0} where
  -- the sides of a core at first
  pub first_trustee : (places : ℕ) → trustee_of {V = V} {O = O} {R = R} {T = T} (first_core places) ≡ new_trustee places
  first_trustee places =
      ap (λ hands. record { log = []; hands = hands; looks = map (λ (slot : FullSlot V O R T). slot.trustee) (replicate places no_slot) })
      (map-replicate (λ (slot : FullSlot V O R T). hand_in slot.box) places no_slot)
      ∙ ap (λ looks. record { log = []; hands = replicate places None; looks = looks })
      (map-replicate (λ (slot : FullSlot V O R T). slot.trustee) places no_slot)

  pub first_client : (places c : ℕ) → c < places → client_of {V = V} {O = O} {R = R} {T = T} c (slot_of (first_core places) c) ≡ new_client c
  first_client places c lt = ap (λ s. client_of c s) (get_or-replicate places c no_slot no_slot lt)
