use Rattle.std.proofs.Common.{◌≡◌, None, Some, length, slice_get}
use Rattle.tm_turns.specs.Whole.{Keeps}
use Rattle.mc_next.specs.Parts.{store_kind}
use Rattle.mc_next.specs.Runs.{Setting}
use Rattle.mc_next.specs.Sessions.{IsOf, seen}
use Rattle.mc_next.specs.Steps.{IsCaused}
use Rattle.mc_solo.specs.Serving.{StoreClient, store_view, KeepsOthers}
use Rattle.mc_solo.specs.Driving.{IsDriven, position}
use Rattle.mc_solo.proofs.serving.serve_in_turns.Given as goal

-- the session is one that began with what client and devices told at the start
abbrev pub invariant-loop-ended : goal.invariant-loop-ended
invariant-loop-ended g l = record {
  stands : (s : Setting) (client : StoreClient) → s.limit ≡ l.fn.limit → IsOf s l.trusts (length l.fn.turns.tables.items) → slice_get l.fn.turns.clients.items l.place ≡ Some client
      → IsDriven s (seen store_view client.books (g.A.Source.left l.fn.source) (g.W.Clock.readings l.fn.clock) (g.B.Sink.written l.fn.sink)) l.fn.turns l.place l.trusts l.session l.turns
      (g.A.Source.left l.source) (g.W.Clock.readings l.clock) (g.B.Sink.written l.sink);
  going : l.session.over ≡ None;
  keeps : Keeps store_kind l.fn.turns l.turns;
  others : KeepsOthers l.place l.fn.turns l.turns;
  cause : IsCaused l.session.stopped (g.A.Source.faults l.fn.source) (g.A.Source.faults l.source) (g.B.Sink.faults l.fn.sink) (g.B.Sink.faults l.sink);
}

abbrev pub decreases-loop-ended : goal.decreases-loop-ended
decreases-loop-ended g l = position l.session
