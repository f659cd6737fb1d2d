use Rattle.bench_counters.specs.Counting.{MayAsk}
use Rattle.bench_counters.proofs.asking.count.Given as goal

abbrev pub invariant-loop : goal.invariant-loop
invariant-loop g l = MayAsk g.P.PairTable.theory l.table l.side
