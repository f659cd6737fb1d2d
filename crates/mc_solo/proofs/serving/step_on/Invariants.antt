use Rattle.std.proofs.Common.{◌≡◌, ℕ, None}
use Rattle.tm_turns.specs.Whole.{Keeps}
use Rattle.tm_turns.proofs.Driving.{to_drive}
use Rattle.mc_next.specs.Numbers.{numbers_of}
use Rattle.mc_next.specs.Parts.{store_kind}
use Rattle.mc_next.specs.Runs.{Setting, SessionView}
use Rattle.mc_next.specs.Steps.{before_of, IsCaused}
use Rattle.mc_solo.specs.Serving.{StoreTurns, KeepsOthers}
use Rattle.mc_solo.specs.Driving.{IsDriven, still_to_go}
use Rattle.mc_solo.proofs.serving.step_on.Given as goal

-- as much is before the session as when the loop began
abbrev pub invariant-loop-ended : goal.invariant-loop-ended
invariant-loop-ended g l = record {
  stands : (s : Setting) (first : SessionView) (start : StoreTurns)
      → IsDriven s first start l.place l.trusts l.fn.session l.fn.turns (g.A.Source.left l.fn.source) (g.W.Clock.readings l.fn.clock) (g.B.Sink.written l.fn.sink)
      → IsDriven s first start l.place l.trusts l.session l.turns (g.A.Source.left l.source) (g.W.Clock.readings l.clock) (g.B.Sink.written l.sink);
  going : l.session.over ≡ None;
  keeps : Keeps store_kind l.fn.turns l.turns;
  others : KeepsOthers l.place l.fn.turns l.turns;
  cause : (reads writes : ℕ) → IsCaused l.fn.session.stopped reads (g.A.Source.faults l.fn.source) writes (g.B.Sink.faults l.fn.sink)
      → IsCaused l.session.stopped reads (g.A.Source.faults l.source) writes (g.B.Sink.faults l.sink);
  same : before_of l.session ≡ before_of l.fn.session;
  numbers : numbers_of l.before ≡ before_of l.fn.session;
}

abbrev pub decreases-loop-ended : goal.decreases-loop-ended
decreases-loop-ended g l = still_to_go l.place (to_drive store_kind l.place) l.turns
