use Rattle.std.proofs.Common.{◌≤◌}
use Rattle.std.specs.Prelude.{vec_capacity}
use Rattle.tm_trustee.specs.Lanes.{AreNewLanes}
use Rattle.tm_trustee.proofs.lane.new_lanes.Given as goal

-- so many lanes were made
abbrev pub invariant-loop-i : goal.invariant-loop-i
invariant-loop-i g l = record {
  lanes : AreNewLanes l.number l.room l.nested l.i l.lanes.items;
  capacity : l.count ≤ vec_capacity l.lanes;
}
