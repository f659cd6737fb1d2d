use Rattle.std.proofs.Common.{◌≡◌, cond, map}
use Rattle.std.specs.List.{range_with_len}
use Rattle.tm_model.specs.Opening.{is_named}
use Rattle.tm_reference.proofs.opening.open_object.Given as goal

abbrev pub invariant-loop-place : goal.invariant-loop-place
invariant-loop-place g l = l.holds.items ≡ map (λ c. cond (is_named c l.fn.first) 1 0) (range_with_len 0 l.place)
