use Rattle.std.specs.List.{AllByRecursion}
use Rattle.bench_counters.specs.Counting.{IsOfCounter}
use Rattle.bench_counters.proofs.asking.adds.Given as goal

abbrev pub invariant-loop-by : goal.invariant-loop-by
invariant-loop-by l = AllByRecursion IsOfCounter l.batch.requests.items
