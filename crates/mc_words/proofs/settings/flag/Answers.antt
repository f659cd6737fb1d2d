use Rattle.clap.specs.Words.{found_of}
use Rattle.mc_words.specs.Spelling.{label}
use Rattle.mc_words.proofs.TextFacts.{flag_read}
use Rattle.mc_words.proofs.settings.flag.Goals as goal

pub returns : goal.returns
returns c = flag_read (found_of c.args.matches.now) c.label.result.now (label c.args.name) c.label.ensures c.get_flag.result c.get_flag.ensures.value c.get_flag.ensures.other
