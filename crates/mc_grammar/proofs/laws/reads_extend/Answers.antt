use Rattle.mc_grammar.proofs.Spellings.{reads_extend}
use Rattle.mc_grammar.proofs.laws.reads_extend.Goals as goal

pub returns : goal.returns
returns c = reads_extend
