use Rattle.std.proofs.Common.{◌≡◌, ◌+◌, take}
use Rattle.tm_state.specs.PlacedObjects.{placed}
use Rattle.tm_state.proofs.placing.place_on.Given as goal

-- the object is placed with a hold of each holder so far
abbrev pub invariant-loop-place : goal.invariant-loop-place
invariant-loop-place g l =
    l.objects ≡ placed g.row.S-Task.Denot (record l.fn.object { holders = take (l.place-index + 1) l.fn.object.holders }) l.fn.objects
