use Rattle.mc_grammar.proofs.Spellings.{one_reading}
use Rattle.mc_grammar.proofs.laws.one_reading.Goals as goal

pub returns : goal.returns
returns c = one_reading
