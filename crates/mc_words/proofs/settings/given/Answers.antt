use Rattle.clap.specs.Words.{found_of}
use Rattle.mc_words.specs.Spelling.{label, range_of}
use Rattle.mc_words.proofs.TextFacts.{no_text, text_given, text_refused}
use Rattle.mc_words.proofs.settings.given.Goals as goal

pub returns-in_default-clause-says : goal.returns-in_default-clause-says
returns-in_default-clause-says c = no_text (found_of c.args.matches.now) c.label.result.now (label c.args.name) c.label.ensures (range_of c.args.name) c.in_default.ensures

pub returns-in-Some-value-clause-says : goal.returns-in-Some-value-clause-says
returns-in-Some-value-clause-says c =
    text_given (found_of c.args.matches.now) c.label.result.now (label c.args.name) c.label.ensures (range_of c.args.name) c.in-Some.text.now c.in-Some-value.value
    c.in-Some.ensures c.in-Some-value.ensures.spells

pub returns-in-None-clause-refused : goal.returns-in-None-clause-refused
returns-in-None-clause-refused c =
    text_refused (found_of c.args.matches.now) c.label.result.now (label c.args.name) c.label.ensures (range_of c.args.name) c.in-Some.text.now c.in-Some.ensures c.in-None.ensures.spells
