use Rattle.mc_grammar.proofs.Steps.{Goes-stay}
use Rattle.mc_grammar.proofs.Taking.{takes_done}
use Rattle.mc_grammar.proofs.reader.run.Goals as goal

pub returns-in-Ready-clause-ok : goal.returns-in-Ready-clause-ok
returns-in-Ready-clause-ok c = rw c.in-Ready.is (takes_done _ _ c.args.from.now (Goes-stay _) tt tt)
