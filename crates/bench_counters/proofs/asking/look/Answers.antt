use Rattle.bench_counters.proofs.Calling.{collects_asked, free_behind}
use Rattle.bench_counters.proofs.asking.look.Goals as goal

pub returns-clause-asked : goal.returns-clause-asked
returns-clause-asked g c =
    collects_asked g.P.PairTable.theory c.args.table.now c.collect.new.self c.args.side.now c.collect.new.side c.collect.result c.requires
    c.collect.ensures.collects c.collect.ensures.keeps

pub returns-clause-free : goal.returns-clause-free
returns-clause-free g c = free_behind _ _ c.collect.result c.collect.ensures.collects
