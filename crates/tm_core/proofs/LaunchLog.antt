-- A legal log, from any state on: the launches that it ran are open, or ended by what left or waits.
-- Other crates import from this file.
use Rattle.std.proofs.Common.{◌≡◌, ℕ, ◌+◌, ◌<◌, true, false, cond, List, [], ◌∷◌, ◌++◌, length, take, arith}
use Rattle.std.specs.Prelude.{◌==◌}
use Rattle.tm_seq.specs.Kind.{Kind}
use Rattle.tm_batch.specs.declared.limits.TheConstants.{MOST_COMPLETIONS}
use Rattle.tm_batch.specs.declared.message.Answer.{Answer}
use Rattle.tm_model.specs.declared.entry.Entry.{Entry}
use Rattle.tm_model.specs.declared.entry.Entry.TheVariants.{By, Resume, Sent}
use Rattle.tm_model.specs.State.{State, place_of}
use Rattle.tm_model.specs.Serve.{after, state_after}
use Rattle.tm_model.specs.Legal.{IsLegal}
use Rattle.tm_model.specs.Ran.{ran, waiting_after}
use Rattle.tm_model.specs.Batches.{leaving, batches_from}
use Rattle.tm_model.specs.Holds.{launches_in, spent_in, ended_in, unfinished}
use Rattle.tm_core.proofs.Launches.{by_launches, sent_launches, resume_launches}
use Rattle.tm_core.proofs.Ordered.{IsOrdered, after_ordered}
use Rattle.tm_core.proofs.Tallies.{launches_in-append, spent_in-append}

module _ {V O R T : Type 0} where
  -- the launches of a place that have not ended
  abbrev pub open_launches : State V O R T → ℕ → ℕ
  open_launches s c = unfinished c s.live + length (place_of s c).ready

  module _ (kind : Kind V O R T) (n c : ℕ) (lt : c < n) where
    -- launches that a log runs have not ended, or end by what leaves or by answers that wait
    pub log_launches :
        (k : ℕ) (w : List (Answer V O R T)) (s : State V O R T) (es : List (Entry V O R T)) → IsOrdered n s → IsLegal kind s es
        → launches_in (ran c es) + open_launches s c + spent_in w
        ≡ open_launches (state_after kind s es) c + ended_in (batches_from kind c k w s es) + spent_in (waiting_after c w es)
    log_launches k w s [] h legal = omega arith
    log_launches k w s (By d j q a ∷ es) h legal =
        let s' = after kind s (By d j q a) in
        let h' = after_ordered kind n s (By d j q a) legal.0 h in
        let one = by_launches kind n c d s h j q a legal.0.2 in
        let more = log_launches (k + 1) (cond (d == c) (w ++ a ∷ []) w) s' es h' legal.1 in
        let ran_is = launches_in-append (q ∷ []) (ran c es) in
        let waits = spent_in-append w (a ∷ []) in
        elim (d == c) as
        (λ t. cond t (launches_in (q ∷ [])) 0 + open_launches s c ≡ open_launches s' c + cond t (spent_in (a ∷ [])) 0
        → launches_in (ran c es) + open_launches s' c + spent_in (cond t (w ++ a ∷ []) w)
        ≡ open_launches (state_after kind s' es) c + ended_in (batches_from kind c (k + 1) (cond t (w ++ a ∷ []) w) s' es)
        + spent_in (waiting_after c (cond t (w ++ a ∷ []) w) es)
        → launches_in (cond t (q ∷ ran c es) (ran c es)) + open_launches s c + spent_in w
        ≡ open_launches (state_after kind s' es) c + ended_in (batches_from kind c (k + 1) (cond t (w ++ a ∷ []) w) s' es)
        + spent_in (waiting_after c (cond t (w ++ a ∷ []) w) es)) [
          | true ↦ λ one more. omega (arith, one, more, ran_is, waits)
          | false ↦ λ one more. omega (arith, one, more)
        ] one more
    log_launches k w s (Resume id ticket event next ∷ es) h legal =
        let h' = after_ordered kind n s (Resume id ticket event next) legal.0 h in
        let one = resume_launches kind n c s id ticket event next h lt legal.0 in
        let more = log_launches (k + 1) w (after kind s (Resume id ticket event next)) es h' legal.1 in
        omega (arith, one, more)
    log_launches k w s (Sent d room ∷ es) h legal =
        let s' = after kind s (Sent d room) in
        let h' = after_ordered kind n s (Sent d room) legal.0 h in
        let one = sent_launches c d room s (omega (arith, h.places, lt)) in
        let more = log_launches (k + 1) (cond (d == c) [] w) s' es h' legal.1 in
        elim (d == c) as
        (λ t. 0 + open_launches s c ≡ open_launches s' c + cond t (length (take MOST_COMPLETIONS (place_of s c).ready)) 0
        → launches_in (ran c es) + open_launches s' c + spent_in (cond t [] w)
        ≡ open_launches (state_after kind s' es) c + ended_in (batches_from kind c (k + 1) (cond t [] w) s' es)
        + spent_in (waiting_after c (cond t [] w) es)
        → launches_in (ran c es) + open_launches s c + spent_in w
        ≡ open_launches (state_after kind s' es) c
        + ended_in (cond t (leaving c room (k + 1) w s ∷ batches_from kind c (k + 1) [] s' es) (batches_from kind c (k + 1) w s' es))
        + spent_in (waiting_after c (cond t [] w) es)) [
          | true ↦ λ one more. omega (arith, one, more)
          | false ↦ λ one more. omega (arith, one, more)
        ] one more
