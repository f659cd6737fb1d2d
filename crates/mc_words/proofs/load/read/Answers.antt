use Rattle.std.proofs.Common.{is_some}
use Rattle.clap.specs.Words.{found_of, one_of, rows_of}
use Rattle.mc_words.specs.declared.names.Name.TheVariants.{Turns}
use Rattle.mc_words.specs.Spelling.{label}
use Rattle.mc_words.proofs.TextFacts.{flag_text}
use Rattle.mc_words.proofs.load.read.Goals as goal

pub returns-clause-says : goal.returns-clause-says
returns-clause-says c = record {
  seed = c.in_ok-setting.ensures.says;
  ops = c.in_ok-setting-2.ensures.says;
  clients = c.in_ok-setting-3.ensures.says;
  trustees = c.in_ok-setting-4.ensures.says;
  turns = (
    c.requires.0,
    c.requires.1,
    c.flag.ensures (is_some c.requires.0) (flag_text (one_of (label Turns) (rows_of (found_of c.args.matches.now))) c.requires.0 c.requires.1),
  );
}
