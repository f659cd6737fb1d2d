use Rattle.std.proofs.Common.{◌≡◌}
use Rattle.tm_model.specs.Opening.{opened, placed_on}
use Rattle.tm_reference.proofs.opening.open_objects.Given as goal

abbrev pub invariant-loop-object : goal.invariant-loop-object
invariant-loop-object g l = l.live.items ≡ opened l.count 1 (placed_on l.number l.yielded)
