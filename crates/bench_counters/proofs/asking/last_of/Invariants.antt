use Rattle.std.proofs.Common.{take}
use Rattle.bench_counters.proofs.Orders.{HaveCome}
use Rattle.bench_counters.proofs.asking.last_of.Given as goal

abbrev pub invariant-loop-at : goal.invariant-loop-at
invariant-loop-at l = HaveCome l.before l.at (take l.at l.answers) l.last
