use Rattle.std.proofs.Common.{◌≤◌}
use Rattle.std.specs.Prelude.{vec_capacity}
use Rattle.tm_trustee.specs.Lanes.{AreCounted}
use Rattle.tm_trustee.proofs.lane.held_by.Given as goal

-- so many numbers were counted
abbrev pub invariant-loop-u : goal.invariant-loop-u
invariant-loop-u g l = record {
  counted : AreCounted l.number l.lanes l.u l.held.items;
  capacity : l.count ≤ vec_capacity l.held;
}
