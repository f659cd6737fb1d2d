use Rattle.std.proofs.Common.{◌≡◌, ◌++◌, map}
use Rattle.tm_client.specs.Begun.{new_lane}
use Rattle.tm_client.proofs.opening.lanes_of.Given as goal

-- the sides so far have their lanes, and the others are to come
abbrev pub invariant-loop-side : goal.invariant-loop-side
invariant-loop-side g l = (l.lanes.items ≡ map new_lane l.yielded) × (l.yielded ++ l.side-iterator.rest.items ≡ l.fn.sides.items)
