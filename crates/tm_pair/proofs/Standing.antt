-- The sides of a good core are good. Other crates import this file.
use Rattle.std.proofs.Common.{◌≡◌, ℕ, ◌<◌, ◌≤◌, List, [], ◌∷◌, ◌++◌, length, inl, inr, refl, sym, ◌∙◌, ap, subst, arith, append-nil, append_assoc, length-append}
use Rattle.std.specs.declared.option.Option.TheVariants.{None, Some}
use Rattle.std.proofs.Math.ListN.{get_or-map}
use Rattle.std.proofs.lemmas.List.{length-map, get_or_past}
use Rattle.std.proofs.lemmas.Bool.{cases_lt}
use Rattle.tm_seq.specs.Kind.{Kind}
use Rattle.tm_batch.specs.declared.limits.TheConstants.{MOST_REQUESTS}
use Rattle.tm_batch.specs.declared.message.Request.{Request}
use Rattle.tm_batch.specs.declared.message.AnswerBatch.{AnswerBatch}
use Rattle.tm_model.specs.declared.entry.Entry.{Entry}
use Rattle.tm_model.specs.declared.entry.Entry.TheVariants.{Sent}
use Rattle.tm_model.specs.State.{State}
use Rattle.tm_model.specs.Legal.{IsLegal}
use Rattle.tm_model.specs.Slots.{Empty, Asked, Taken, Answered, no_slot, slot_of}
use Rattle.tm_model.specs.GoodSlots.{HasSeen, IsSeen, IsUpTo, Shows}
use Rattle.tm_model.specs.Good.{FullBox, FullSlot, FullCore, IsGood, IsOutInOrder}
use Rattle.tm_model.specs.Ran.{mark_of, ran}
use Rattle.tm_model.specs.Batches.{batches}
use Rattle.tm_model.specs.Entries.{entries_by, batch_entries}
use Rattle.tm_model.specs.Holds.{answers_in}
use Rattle.tm_model.specs.Laws.{IsOpening}
use Rattle.tm_core.proofs.ClientAnswers.{cut_settled, answers_are_as_many}
use Rattle.tm_core.proofs.Marks.{ran-append}
use Rattle.tm_core.proofs.Promised.{batches_are_promised}
use Rattle.tm_core.proofs.Tallies.{answers_in-append}
use Rattle.tm_pair.specs.Views.{BatchView, hand_of}
use Rattle.tm_pair.specs.Sides.{HasRun, IsGoodClient, IsGoodHand, IsGoodTrustee}
use Rattle.tm_pair.specs.SideViews.{batch_out, hand_in, client_of, trustee_of}
use Rattle.tm_pair.proofs.Lists.{nil_by_length, last_joined}

module _ {V O R T : Type 0} where
  -- a hand shows a batch that was taken
  pub is_in_hand : (box : FullBox V O R T) (hand : BatchView V O R T) → hand_in box ≡ Some hand → box ≡ Taken hand.requests hand.room
  is_in_hand (Taken b room) hand e = cc
  is_in_hand Empty hand e = cc
  is_in_hand (Asked b room) hand e = cc
  is_in_hand (Answered a upto room) hand e = cc

  -- what is in hand of a place
  pub hand_at : (core : FullCore V O R T) (c : ℕ) → hand_of (trustee_of core) c ≡ hand_in (slot_of core c).box
  hand_at core c = get_or-map (λ (slot : FullSlot V O R T). hand_in slot.box) core.slots c no_slot

  -- a batch is in hand of places alone
  pub hand_in_range : (core : FullCore V O R T) (c : ℕ) (hand : BatchView V O R T) → hand_in (slot_of core c).box ≡ Some hand → c < length core.slots
  hand_in_range core c hand e =
      elim (cases_lt c (length core.slots)) [
        | inl lt ↦ lt
        | inr ge ↦ let none : slot_of core c ≡ no_slot = get_or_past core.slots c no_slot ge in
            let no : None ≡ Some hand = ap (λ (slot : FullSlot V O R T). hand_in slot.box) (sym none) ∙ e in absurd cc
      ]

module _ {V O R T : Type 0} (kind : Kind V O R T) (opening : State V O R T) where
  -- what came before the entries of a batch whose answers are back ran nothing of its place beside what the place had seen
  only_the_batch :
      (c room : ℕ) (slot : FullSlot V O R T) (log upto others : List (Entry V O R T)) (a : AnswerBatch V O R T) (b : List (Request V O R T))
      → IsSeen mark_of (batches kind opening) (IsLegal kind opening) log c slot
      → IsUpTo mark_of (batches kind opening) (IsLegal kind opening) log c slot a upto room
      → upto ≡ slot.seen ++ others ++ batch_entries (slot.seen ++ others) c b room a.answers.items
      → length a.answers.items ≡ length b → slot.sent ≡ ran c (slot.seen ++ others) ++ b → slot.sent ≡ ran c slot.seen ++ b
  only_the_batch c room slot log upto others a b seen back is many sent =
      let front = slot.seen ++ others ++ entries_by c (length (ran c (slot.seen ++ others))) b a.answers.items in
      let ends : upto ≡ front ++ Sent c room ∷ [] = is ∙ sym (append_assoc (slot.seen ++ others) _ (Sent c room ∷ [])) in
      let all = (answers_are_as_many kind opening upto c (a ∷ []) (front, Sent c room, room, ends, refl)).2 in
      let before = (answers_are_as_many kind opening slot.seen c slot.got seen.cut).2 in
      let got = ap (λ l. length (answers_in l)) back.leaves in
      let was = ap (λ l. length (answers_in l)) seen.leaves in
      let grown = ap (λ l. length l) (answers_in-append slot.got (a ∷ [])) in
      let joined = length-append (answers_in slot.got) (answers_in (a ∷ [])) in
      let one : length (answers_in (a ∷ [])) ≡ length a.answers.items = ap (λ l. length l) (append-nil a.answers.items) in
      let run = ap (λ l. length l) back.runs in
      let asked = ap (λ l. length l) sent in
      let parts = length-append (ran c (slot.seen ++ others)) b in
      let apart = ran-append mark_of c slot.seen others in
      let counts = ap (λ l. length l) apart in
      let sum = length-append (ran c slot.seen) (ran c others) in
      let none : ran c others ≡ [] = nil_by_length (ran c others) (omega (arith, all, before, got, was, grown, joined, one, run, asked, parts, counts, sum, many)) in
      sent ∙ ap (λ l. l ++ b) (apart ∙ ap (λ l. ran c slot.seen ++ l) none ∙ append-nil (ran c slot.seen))

  has_run :
      (box : FullBox V O R T) (slot : FullSlot V O R T) (c : ℕ) (log : List (Entry V O R T))
      → IsSeen mark_of (batches kind opening) (IsLegal kind opening) log c slot
      → HasSeen mark_of (batches kind opening) (IsLegal kind opening) box slot c
      → Shows mark_of (batches kind opening) (IsLegal kind opening) box slot c log → IsOutInOrder opening c box slot log
      → HasRun (batch_out box slot.sent) slot.sent (ran c slot.seen)
  has_run Empty slot c log own seen shows out = seen
  has_run (Asked b room) slot c log own seen shows out = (seen, out.1, out.2)
  has_run (Taken b room) slot c log own seen shows out = (seen, out.1, out.2)
  has_run (Answered a upto room) slot c log own seen shows out =
      let (b, others, sent, most, many, grown) = out.answers in
      let run = only_the_batch c room slot log upto others a b own shows grown many sent in
      let last = last_joined slot.sent (ran c slot.seen) b (length a.answers.items) run many in
      (run ∙ ap (λ l. ran c slot.seen ++ l) (sym last), subst (λ l. length l ≤ MOST_REQUESTS) (sym last) most, out.most_gifts)

  pub client_good :
      (core : FullCore V O R T) (c : ℕ) → IsOpening opening → IsGood kind opening core → c < length core.slots
      → IsGoodClient kind opening (client_of c (slot_of core c))
  client_good core c opens good lt =
      let slot = slot_of core c in
      let own = good.slots.slots c lt in
      let accounts = good.accounts c lt in
      record {
        opens = opens;
        in_range = subst (λ n. c < n) good.places lt;
        is_legal = own.seen.is_legal;
        leaves = own.seen.leaves;
        cut = own.seen.cut;
        settled = cut_settled mark_of (batches kind opening) (IsLegal kind opening) c slot.got slot.seen own.seen.cut;
        runs = has_run slot.box slot c core.log own.seen own.seen.runs own.shows accounts.out;
        enough = accounts.enough;
        window = accounts.window;
      }

  hand_good :
      (core : FullCore V O R T) (c : ℕ) (hand : BatchView V O R T) → IsOpening opening → IsGood kind opening core
      → hand_in (slot_of core c).box ≡ Some hand → IsGoodHand kind opening core.log c hand
  hand_good core c hand opens good is =
      let lt = hand_in_range core c hand is in
      let taken = is_in_hand (slot_of core c).box hand is in
      let out = subst (λ (box : FullBox V O R T). IsOutInOrder opening c box (slot_of core c) core.log) taken (good.accounts c lt).out in
      record { most = out.1; most_gifts = out.2; promised = (batches_are_promised kind opening core c hand.requests hand.room opens good lt).1 taken }

  pub trustee_good : (core : FullCore V O R T) → IsOpening opening → IsGood kind opening core → IsGoodTrustee kind opening (trustee_of core)
  trustee_good core opens good = record {
    opens = opens;
    is_legal = good.slots.is_legal;
    hands = length-map core.slots (λ (slot : FullSlot V O R T). hand_in slot.box) ∙ good.places;
    looks = length-map core.slots (λ (slot : FullSlot V O R T). slot.trustee) ∙ good.places;
    in_hand = λ c hand is. hand_good core c hand opens good (sym (hand_at core c) ∙ is);
    settled = λ c lt. (good.slots.slots c (subst (λ n. c < n) (sym good.places) lt)).settled;
  }
