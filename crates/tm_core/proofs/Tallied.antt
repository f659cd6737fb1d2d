-- `IsTallied`: what a settled log says of a place; with good slots the place is accounted for, so an answer keeps the core good.
use Rattle.std.proofs.Common.{◌≡◌, ◌≢◌, ℕ, ◌+◌, ◌<◌, ◌≤◌, true, List, [], ◌∷◌, ◌++◌, length, slice_index_or, slice_set, inl, inr, sym, ◌∙◌, ap, subst, arith, get_or-set_same, get_or-set_other, length-set, append_assoc, append-nil, length-append}
use Rattle.std.proofs.lemmas.Bool.{cases_eq}
use Rattle.tm_seq.specs.Kind.{Kind}
use Rattle.tm_batch.specs.declared.limits.TheConstants.{WINDOW}
use Rattle.tm_batch.specs.declared.message.Request.{Request}
use Rattle.tm_batch.specs.declared.message.Request.TheVariants.{Bye}
use Rattle.tm_batch.specs.declared.message.AnswerBatch.{AnswerBatch}
use Rattle.tm_model.specs.declared.entry.Entry.{Entry}
use Rattle.tm_model.specs.declared.entry.Entry.TheVariants.{Sent}
use Rattle.tm_model.specs.State.{State, place_of, holds_at}
use Rattle.tm_model.specs.Serve.{state_after}
use Rattle.tm_model.specs.Legal.{IsLegal}
use Rattle.tm_model.specs.Slots.{Empty, Asked, Taken, Answered, no_slot, slot_of, answered as after_answer}
use Rattle.tm_model.specs.GoodSlots.{Agrees, Reached, IsSettled, IsGoodSlot}
use Rattle.tm_model.specs.Ran.{mark_of, ran, waiting_after}
use Rattle.tm_model.specs.Batches.{batches}
use Rattle.tm_model.specs.Holds.{has_bye, launches_in, gave, gifts_of, answers_in, ended_in, came, unfinished}
use Rattle.tm_model.specs.Good.{FullBox, FullSlot, FullCore, unserved, got_with, IsOutInOrder, IsAccounted, IsGood}
use Rattle.tm_model.specs.Entries.{entries_by, batch_entries, added}
use Rattle.tm_model.specs.Answering.{MayAnswerWith, answer_with}
use Rattle.tm_core.proofs.Joins.{growing_adds, growing_few, resumes_are_none}
use Rattle.tm_core.proofs.Lists.{front_empty}
use Rattle.tm_core.proofs.AnswerKeeps.{added_not_of, answer_keeps, ran_more}
use Rattle.tm_core.proofs.Marks.{ran-append, ran_none, none_not_of}
use Rattle.tm_core.proofs.AllAnswers.{batches_have_all_answers}
use Rattle.tm_core.proofs.Tallies.{came_same, gave-append, launches_in-append, bye_more}

module _ {V O R T : Type 0} where
  -- what a log says of place c, where all answers to it left
  pub record IsTallied (kind : Kind V O R T) (opening : State V O R T) (c : ℕ) (log : List (Entry V O R T)) (s : State V O R T) : Type 0 where
    pub holds : has_bye (ran c log) ≢ true → (id : ℕ)
        → holds_at s c id + gave id (ran c log)
        ≡ came opening c (ran c log) (batches kind opening c log) id + gifts_of id (place_of s c).gifts
    pub launches : launches_in (ran c log) ≡ unfinished c s.live + length (place_of s c).ready + ended_in (batches kind opening c log)
    pub closed : (place_of s c).is_closed ≡ has_bye (ran c log)
    pub left : has_bye (ran c log) ≡ true → ((id : ℕ) → holds_at s c id ≡ 0) × ((place_of s c).gifts ≡ [])

  -- what a place sent and got of its own, and what is out
  pub record IsKept (opening : State V O R T) (c : ℕ) (slot : FullSlot V O R T) (log : List (Entry V O R T)) : Type 0 where
    pub enough : (id : ℕ) → gave id slot.sent ≤ came opening c slot.sent slot.got id
    pub window : launches_in slot.sent ≤ WINDOW + ended_in slot.got
    pub ended : has_bye slot.sent ≡ true → launches_in slot.sent ≡ ended_in slot.got
    pub last : (before after : List (Request V O R T)) → slot.sent ≡ before ++ Bye ∷ after → after ≡ []
    pub out : IsOutInOrder opening c slot.box slot log

  -- a Bye is the last that was run, if it is the last that was sent
  last_ran :
      (ran rest sent : List (Request V O R T)) → sent ≡ ran ++ rest
      → ((before after : List (Request V O R T)) → sent ≡ before ++ Bye ∷ after → after ≡ [])
      → (before after : List (Request V O R T)) → ran ≡ before ++ Bye ∷ after → after ≡ []
  last_ran ran rest sent e last before after is =
      front_empty after rest (last before (after ++ rest) (e ∙ ap (λ l. l ++ rest) is ∙ append_assoc before (Bye ∷ after) rest))

  module _ (kind : Kind V O R T) (opening : State V O R T) where
    sent_is :
        (box : FullBox V O R T) (slot : FullSlot V O R T) (c : ℕ) (log : List (Entry V O R T))
        → Agrees mark_of (batches kind opening) (IsLegal kind opening) box slot c log → slot.sent ≡ ran c log ++ unserved box
    sent_is Empty slot c log (words, sent) = sent ∙ sym (append-nil (ran c log))
    sent_is (Asked b room) slot c log (words, sent) = sent
    sent_is (Taken b room) slot c log (words, sent) = sent
    sent_is (Answered a upto room) slot c log (words, sent) = sent ∙ sym (append-nil (ran c log))

    got_is :
        (box : FullBox V O R T) (slot : FullSlot V O R T) (c : ℕ) (log : List (Entry V O R T))
        → Reached mark_of (batches kind opening) (IsLegal kind opening) box slot c log → batches kind opening c log ≡ got_with box slot.got
    got_is Empty slot c log got = got
    got_is (Asked b room) slot c log got = got
    got_is (Taken b room) slot c log got = got
    got_is (Answered a upto room) slot c log got = got

    -- a place whose slot is good behind a log that is tallied is accounted for
    pub accounted :
        (c : ℕ) (slot : FullSlot V O R T) (log : List (Entry V O R T)) (s : State V O R T)
        → IsGoodSlot mark_of (batches kind opening) (IsLegal kind opening) log c slot → IsTallied kind opening c log s → IsKept opening c slot log
        → IsAccounted opening c slot log s
    accounted c slot log s good tallied kept =
        let sent = sent_is slot.box slot c log good.agrees in
        let got = got_is slot.box slot c log good.reached in
        let (all, many, none) = batches_have_all_answers kind opening log c in
        let counted = ap length all in
        let joined = length-append (answers_in (batches kind opening c log)) (waiting_after c [] log) in
        record {
          holds = λ still id.
              let had = tallied.holds (λ bye. still (ap has_bye sent ∙ bye_more (ran c log) (unserved slot.box) bye)) id in
              let given = gave-append id (ran c log) (unserved slot.box) in
              let came_is = came_same opening c (ran c log) (unserved slot.box) (batches kind opening c log) id (omega (arith, counted, joined, many)) in
              rw (sent, ← got, given, came_is) (omega (arith, had));
          enough = kept.enough;
          launches =
              let had = tallied.launches in
              let more = launches_in-append (ran c log) (unserved slot.box) in
              rw (sent, ← got, more) (omega (arith, had));
          window = kept.window;
          ended = kept.ended;
          last = kept.last;
          closed = tallied.closed;
          left = tallied.left;
          out = kept.out;
        }

    same_out :
        (box : FullBox V O R T) (slot : FullSlot V O R T) (d : ℕ) (log longer : List (Entry V O R T)) → ran d longer ≡ ran d log
        → IsOutInOrder opening d box slot log → IsOutInOrder opening d box slot longer
    same_out Empty slot d log longer e out = tt
    same_out (Asked b room) slot d log longer e out = rw e out
    same_out (Taken b room) slot d log longer e out = rw e out
    same_out (Answered a upto room) slot d log longer e out = out

    module _
        (core : FullCore V O R T) (c : ℕ) (b : List (Request V O R T)) (room : ℕ) (resumes : List (Entry V O R T)) (a : AnswerBatch V O R T)
        (may : MayAnswerWith kind opening core c b room resumes a) (good : IsGood kind opening core) where
      abbrev es : List (Entry V O R T)
      es = added core.log resumes c b room a.answers.items

      -- the log before the batch, from a seen log on, and what it ran
      front_is : (seen rest : List (Entry V O R T)) → core.log ≡ seen ++ rest → core.log ++ resumes ≡ seen ++ (rest ++ resumes)
      front_is seen rest begins = ap (λ l. l ++ resumes) begins ∙ append_assoc seen rest resumes

      front_ran : (seen rest : List (Entry V O R T)) → core.log ≡ seen ++ rest → ran c (seen ++ (rest ++ resumes)) ≡ ran c core.log
      front_ran seen rest begins =
          ap (λ l. ran c l) (sym (front_is seen rest begins))
          ∙ ran_more mark_of (batches kind opening) (IsLegal kind opening) core.log resumes c
          (none_not_of mark_of c resumes (resumes_are_none resumes may.grows.only))

      upto_is :
          (seen rest : List (Entry V O R T)) → core.log ≡ seen ++ rest
          → core.log ++ es ≡ seen ++ (rest ++ resumes) ++ batch_entries (seen ++ (rest ++ resumes)) c b room a.answers.items
      upto_is seen rest begins =
          let own = batch_entries core.log c b room a.answers.items in
          let at : own ≡ batch_entries (seen ++ (rest ++ resumes)) c b room a.answers.items =
          ap (λ l. entries_by c (length l) b a.answers.items ++ Sent c room ∷ []) (sym (front_ran seen rest begins)) in
          sym (append_assoc core.log resumes own) ∙ ap (λ l. l ++ own) (front_is seen rest begins) ∙ ap (λ l. seen ++ (rest ++ resumes) ++ l) at

      kept_own : IsKept opening c (after_answer a (core.log ++ es) room (slot_of core c)) (core.log ++ es)
      kept_own =
          let slot = slot_of core c in
          let was = good.accounts c may.in_range in
          let place = good.slots.slots c may.in_range in
          let out : IsOutInOrder opening c (Taken b room) slot core.log =
          subst (λ (x : FullBox V O R T). IsOutInOrder opening c x slot core.log) may.is_taken was.out in
          let agrees : Agrees mark_of (batches kind opening) (IsLegal kind opening) (Taken b room) slot c core.log =
          subst (λ (x : FullBox V O R T). Agrees mark_of (batches kind opening) (IsLegal kind opening) x slot c core.log) may.is_taken place.agrees in
          let (rest, begins) = place.seen.prefix in
          let few = growing_few kind opening core.log resumes c b room a may.grows in
          let sent = agrees.1 ∙ ap (λ l. l ++ b) (sym (front_ran slot.seen rest begins)) in
          record {
            enough = was.enough;
            window = was.window;
            ended = was.ended;
            last = was.last;
            out = record {
              most_gifts = out.2;
              gifts = few.0;
              completions = few.1;
              answers = (b, rest ++ resumes, sent, out.1, may.grows.as_many, upto_is slot.seen rest begins);
            };
          }

      kept_other : (d : ℕ) → d < length core.slots → d ≢ c → IsKept opening d (slot_of core d) (core.log ++ es)
      kept_other d lt ne =
          let was = good.accounts d lt in
          let adds = growing_adds kind opening core.log resumes c b room a may.grows in
          let not = added_not_of mark_of (batches kind opening) (IsLegal kind opening) core.log es c b room a adds d ne in
          let same = ran-append mark_of d core.log es ∙ ap (λ l. ran d core.log ++ l) (ran_none mark_of d es not) ∙ append-nil _ in
          record {
            enough = was.enough;
            window = was.window;
            ended = was.ended;
            last = was.last;
            out = same_out (slot_of core d).box (slot_of core d) d core.log (core.log ++ es) same was.out;
          }

      -- an answer keeps the core good, if the longer log is tallied for each place to which all answers left, and of which nothing ran
      -- after a Bye
      pub answer_keeps_tallied :
          ((d : ℕ) → d < length core.slots → IsSettled mark_of d (core.log ++ es)
          → ((before after : List (Request V O R T)) → ran d (core.log ++ es) ≡ before ++ Bye ∷ after → after ≡ [])
          → IsTallied kind opening d (core.log ++ es) (state_after kind opening (core.log ++ es)))
          → IsGood kind opening (answer_with c b room resumes a core)
      answer_keeps_tallied tallied =
          let new = after_answer a (core.log ++ es) room (slot_of core c) in
          let slots = answer_keeps mark_of (batches kind opening) (IsLegal kind opening) core c b room a es
          (record { in_range = may.in_range; is_taken = may.is_taken }) (growing_adds kind opening core.log resumes c b room a may.grows) good.slots in
          record {
            slots = slots;
            places = length-set core.slots c _ ∙ good.places;
            accounts = λ d l.
                let there : d < length core.slots = subst (λ n. d < n) (length-set core.slots c new) l in
                let kept : IsKept opening d (slice_index_or (slice_set core.slots c new) d no_slot) (core.log ++ es) =
                elim (cases_eq d c) [
                  | inl e ↦ rw (e, get_or-set_same core.slots c new no_slot may.in_range) kept_own
                  | inr ne ↦ rw (get_or-set_other core.slots c d new no_slot ne) (kept_other d there ne)
                ] in
                let place = slots.slots d l in
                let last = last_ran (ran d (core.log ++ es)) _ _ (sent_is _ _ d (core.log ++ es) place.agrees) kept.last in
                accounted d _ (core.log ++ es) _ place (tallied d there place.settled last) kept;
          }
