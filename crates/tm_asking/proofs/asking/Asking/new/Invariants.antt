use Rattle.std.proofs.Common.{◌≡◌, length}
use Rattle.tm_asking.proofs.asking.Asking.new.Given as goal

abbrev pub invariant-loop : goal.invariant-loop
invariant-loop g l = length l.replies.items ≡ l.counter
