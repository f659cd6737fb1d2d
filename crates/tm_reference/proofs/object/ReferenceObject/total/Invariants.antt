use Rattle.std.proofs.Common.{◌≡◌, ◌^◌, ◌-◌, min, ◌+◌, sum, take, length}
use Rattle.tm_reference.proofs.object.ReferenceObject.total.Given as goal

abbrev pub invariant-loop-holds : goal.invariant-loop-holds
invariant-loop-holds g l = l.sum ≡ min (sum (take l.holds-index l.holds-items) + length l.self.works) (2 ^ 64 - 1)
