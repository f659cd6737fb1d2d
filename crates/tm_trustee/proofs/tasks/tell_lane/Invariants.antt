use Rattle.std.specs.Prelude.{slice_get}
use Rattle.tm_trustee.specs.Tasks.{SameCame}
use Rattle.tm_trustee.proofs.GoingLoops.{came_in}
use Rattle.tm_trustee.proofs.Telling.{GoesFrom}
use Rattle.tm_trustee.proofs.tasks.tell_lane.Given as goal

-- it went on, and the other lanes have the replies that had come
abbrev pub invariant-loop-launch : goal.invariant-loop-launch
invariant-loop-launch g l = record {
  from :
      GoesFrom g.S.Entrusted.kind l.number l.held l.initial.made l.made l.initial.state l.state l.initial.lanes.items l.lanes.items;
  others : SameCame l.i l.initial.lanes.items l.lanes.items;
}

abbrev pub decreases-loop-launch : goal.decreases-loop-launch
decreases-loop-launch g l = came_in (slice_get l.lanes.items l.i)
