use Rattle.bench_counters.specs.Counting.{HasAsked}
use Rattle.bench_counters.proofs.asking.wait_for.Given as goal

abbrev pub invariant-loop : goal.invariant-loop
invariant-loop g l = HasAsked g.P.PairTable.theory l.table l.side
