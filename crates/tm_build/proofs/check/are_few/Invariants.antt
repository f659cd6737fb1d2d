use Rattle.std.proofs.Common.{ℕ, ◌<◌}
use Rattle.tm_build.specs.Checking.{IsFewFor}
use Rattle.tm_build.proofs.check.are_few.Given as goal

abbrev pub invariant-loop-client : goal.invariant-loop-client
invariant-loop-client g l = (c : ℕ) → c < l.client → IsFewFor l.config l.first.items c
