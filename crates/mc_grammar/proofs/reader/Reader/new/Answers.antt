use Rattle.mc_grammar.proofs.ReadFacts.{none_read}
use Rattle.mc_grammar.proofs.reader.Reader.new.Goals as goal

pub returns-clause-reads : goal.returns-clause-reads
returns-clause-reads c = rw c.new.ensures none_read
