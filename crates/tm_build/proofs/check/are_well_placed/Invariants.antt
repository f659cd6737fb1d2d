use Rattle.std.proofs.Common.{take}
use Rattle.std.specs.Prelude.{All}
use Rattle.tm_build.specs.Checking.{IsWellPlaced}
use Rattle.tm_build.proofs.check.are_well_placed.Given as goal

abbrev pub invariant-loop-f : goal.invariant-loop-f
invariant-loop-f g l = All (IsWellPlaced l.config) (take l.f-index l.f-items)
