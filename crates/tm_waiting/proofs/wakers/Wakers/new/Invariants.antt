use Rattle.std.proofs.Common.{◌≡◌, length}
use Rattle.tm_waiting.proofs.wakers.Wakers.new.Given as goal

-- as many wakers as turns
abbrev pub invariant-loop : goal.invariant-loop
invariant-loop l = length l.all.items ≡ l.counter
