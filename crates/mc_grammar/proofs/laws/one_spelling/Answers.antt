use Rattle.mc_grammar.proofs.Spellings.{one_spelling}
use Rattle.mc_grammar.proofs.laws.one_spelling.Goals as goal

pub returns : goal.returns
returns c = one_spelling
