use Rattle.std.proofs.Common.{ℕ, ◌<◌}
use Rattle.tm_build.specs.Checking.{HasRoomOn}
use Rattle.tm_build.proofs.check.has_room.Given as goal

abbrev pub invariant-loop-trustee : goal.invariant-loop-trustee
invariant-loop-trustee g l = (t : ℕ) → t < l.trustee → HasRoomOn l.config l.first.items t
