use Rattle.std.proofs.Common.{◌≡◌, ◌++◌}
use Rattle.tm_state.specs.PlacedObjects.{begun_with}
use Rattle.tm_state.proofs.state.TrusteeState.new.Given as goal

-- the objects so far are placed, and the others are to come
abbrev pub invariant-loop-object : goal.invariant-loop-object
invariant-loop-object g l =
    (l.state ≡ begun_with g.row.S-Op.Denot g.row.S-Reply.Denot g.row.S-Task.Denot l.number l.fn.config l.yielded) × (l.yielded ++ l.object-iterator.rest.items ≡ l.fn.first.items)
