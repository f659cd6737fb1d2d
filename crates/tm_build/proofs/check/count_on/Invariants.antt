use Rattle.std.proofs.Common.{◌≡◌, ◌≤◌, length, take}
use Rattle.tm_model.specs.Opening.{placed_on}
use Rattle.tm_build.proofs.check.count_on.Given as goal

abbrev pub invariant-loop-f : goal.invariant-loop-f
invariant-loop-f g l = record {
  count : l.count ≡ length (placed_on l.trustee (take l.f-index l.f-items));
  most : l.count ≤ l.f-index;
}
