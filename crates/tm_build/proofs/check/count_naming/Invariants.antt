use Rattle.std.proofs.Common.{◌≡◌, ◌≤◌, count_by, take}
use Rattle.tm_model.specs.Opening.{is_named}
use Rattle.tm_build.proofs.check.count_naming.Given as goal

abbrev pub invariant-loop-f : goal.invariant-loop-f
invariant-loop-f g l = record {
  count : l.count ≡ count_by (is_named l.place) (take l.f-index l.f-items);
  most : l.count ≤ l.f-index;
}
