-- A settled legal log is tallied for its place (`log_tallied`), and so an answer keeps the core good (`answer_keeps_good`).
-- Other crates import from this file.
use Rattle.std.proofs.Common.{◌≡◌, ◌<◌, ℕ, List, [], ◌∷◌, ◌++◌, length, sym, ◌∙◌, ap, arith, append-nil}
use Rattle.tm_seq.specs.Kind.{Kind}
use Rattle.tm_batch.specs.declared.message.Request.{Request}
use Rattle.tm_batch.specs.declared.message.Request.TheVariants.{Bye}
use Rattle.tm_model.specs.declared.entry.Entry.{Entry}
use Rattle.tm_model.specs.State.{State, place_count, holds_at}
use Rattle.tm_model.specs.Serve.{state_after}
use Rattle.tm_model.specs.Legal.{IsLegal}
use Rattle.tm_model.specs.GoodSlots.{IsSettled}
use Rattle.tm_model.specs.Ran.{mark_of, ran, answered}
use Rattle.tm_model.specs.Batches.{batches}
use Rattle.tm_model.specs.Holds.{brought_by, spent_in, gifts_of, answers_in}
use Rattle.tm_model.specs.Entries.{added}
use Rattle.tm_model.specs.Laws.{IsOpening, AnswerKeepsGood}
use Rattle.tm_core.proofs.AllAnswers.{batches_have_all_answers, settled_none_waits}
use Rattle.tm_core.proofs.First.{opening_unfinished}
use Rattle.tm_core.proofs.HoldLog.{log_holds}
use Rattle.tm_core.proofs.LaunchLog.{log_launches}
use Rattle.tm_core.proofs.Numbering.{opening_place}
use Rattle.tm_core.proofs.Ordered.{opening_ordered, log_ordered}
use Rattle.tm_core.proofs.Rising.{holds_sum, holds_are_sum}
use Rattle.tm_core.proofs.Tallied.{IsTallied, answer_keeps_tallied}

module _ {V O R T : Type 0} (kind : Kind V O R T) where
  -- where all answers to a place left, and nothing of it ran after a Bye
  pub log_tallied :
      (opening : State V O R T) (c : ℕ) (log : List (Entry V O R T)) → IsOpening opening → IsLegal kind opening log → c < place_count opening.setup
      → IsSettled mark_of c log
      → ((before after : List (Request V O R T)) → ran c log ≡ before ++ Bye ∷ after → after ≡ [])
      → IsTallied kind opening c log (state_after kind opening log)
  log_tallied opening c log is legal lt settled last =
      let n = place_count opening.setup in
      let s = state_after kind opening log in
      let first = opening_ordered opening is in
      let now = log_ordered kind n opening log legal first in
      let place = (opening_place opening c is lt).1 in
      let none = settled_none_waits c log settled in
      let all = (batches_have_all_answers kind opening log c).0 in
      let answers : answers_in (batches kind opening c log) ≡ answered c log =
      sym (append-nil _) ∙ ap (λ l. answers_in (batches kind opening c log) ++ l) (sym none) ∙ all in
      let flows = log_holds kind n c lt 0 [] opening log first legal (ap (λ p. p.is_closed) place) last in
      let held : (id : ℕ) → holds_at s c id ≡ holds_sum c id s.live = λ id. holds_are_sum n 1 s.next_id c id s.live now.rises in
      record {
        holds = λ still id.
            let flow = flows.holds still id in
            let began = holds_are_sum n 1 opening.next_id c id opening.live first.rises in
            let ends = held id in
            let no_gift = ap (λ p. gifts_of id p.gifts) place in
            let brought = ap (brought_by id (ran c log)) answers in
            omega (arith, flow, began, ends, no_gift, brought);
        launches =
            let flow = log_launches kind n c lt 0 [] opening log first legal in
            let nothing = opening_unfinished opening c is in
            let not_ready = ap (λ p. length p.ready) place in
            let no_answer = ap spent_in none in
            omega (arith, flow, nothing, not_ready, no_answer);
        closed = flows.closed;
        left = λ bye. let shut = flows.shut bye in (λ id. held id ∙ shut.holds id, shut.gifts);
      }

  pub answer_keeps_good : AnswerKeepsGood kind
  answer_keeps_good opening core c b room resumes a is may good =
      answer_keeps_tallied kind opening core c b room resumes a may good (λ d l settled last.
      log_tallied opening d (core.log ++ added core.log resumes c b room a.answers.items) is may.grows.is_legal (omega (arith, l, good.places)) settled
      last)
