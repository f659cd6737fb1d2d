use Rattle.tm_latch.proofs.Pairs.{change, sets_change, length_set}
use Rattle.tm_latch.proofs.Changes.{table_write}
use Rattle.tm_latch.proofs.lines.Lines.set.Goals as goal

pub returns-clause-sets : goal.returns-clause-sets
returns-clause-sets c pairs table some =
    let len = length_set c.args.id c.args.line pairs in (
      change c.args.id _ pairs,
      table_write _ _ pairs table c.args.id c.in-Some.spot (c.in-Some.ensures.found pairs table) c.args.line c.index_mut.result.now c.index_mut.ensures.value len,
      sets_change c.args.id c.args.line pairs some,
      len,
    )
