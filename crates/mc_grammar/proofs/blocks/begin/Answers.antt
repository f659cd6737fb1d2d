use Rattle.mc_grammar.proofs.Steps.{block_large}
use Rattle.mc_grammar.proofs.Taking.{takes_first}
use Rattle.mc_grammar.proofs.blocks.begin.Goals as goal

pub returns-then-size-gt-LARGEST_VALUE : goal.returns-then-size-gt-LARGEST_VALUE
returns-then-size-gt-LARGEST_VALUE c = takes_first _ _ _ c.args.from.now _ (block_large c.args.header c.args.header.size c.if-size-gt-LARGEST_VALUE.true) c.skip.ensures
