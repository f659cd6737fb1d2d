use Rattle.mc_grammar.proofs.Spellings.{each_text_reads}
use Rattle.mc_grammar.proofs.laws.each_text_reads.Goals as goal

pub returns : goal.returns
returns c = each_text_reads
