use Rattle.std.proofs.Common.{◌≡◌, ◌∙◌, rules, subst, sym}
use Rattle.mc_words.specs.Options.{texts}
use Rattle.mc_words.specs.Matched.{TellTurns}
use Rattle.mc_words.specs.declared.stop.WordsStop.TheVariants.{BadWords}
use Rattle.mc_words.proofs.SayingFacts.{found_says, found_turns, no_dashes, none_is_dashes, one_is_dashes, says-found, says-taken}
use Rattle.mc_words.proofs.reading.read_words.Goals as goal

pub returns-then-has_dashes-clause-refused : goal.returns-then-has_dashes-clause-refused
returns-then-has_dashes-clause-refused c = λ bad meaning says.
    one_is_dashes c.args.words.now (sym c.has_dashes.ensures ∙ c.if-has_dashes.true) (no_dashes (texts c.args.words.now) meaning says)

pub returns-in_err-matches-clause-refused : goal.returns-in_err-matches-clause-refused
returns-in_err-matches-clause-refused c = λ bad meaning says.
    let same : c.in_err-matches.field-0.0 ≡ BadWords = search rules in
    c.in_err-matches.ensures.refused same (says-taken (texts c.args.words.now) meaning says)

pub said_by-requires : goal.said_by-requires
said_by-requires c =
    let absent = none_is_dashes c.args.words.now (sym c.has_dashes.ensures ∙ c.if-has_dashes.false) in
    subst TellTurns (sym c.in_ok-matches.ensures.rows) (found_turns (texts c.args.words.now) absent c.in_ok-matches.ensures.taken)

pub returns-in_err-said_by-clause-refused : goal.returns-in_err-said_by-clause-refused
returns-in_err-said_by-clause-refused c = λ bad meaning says.
    c.in_err-said_by.ensures.refused meaning (rw c.in_ok-matches.ensures.rows (says-found (texts c.args.words.now) meaning says))

pub returns-clause-says : goal.returns-clause-says
returns-clause-says c =
    let absent = none_is_dashes c.args.words.now (sym c.has_dashes.ensures ∙ c.if-has_dashes.false) in
    found_says (texts c.args.words.now) c.in_ok-said_by.field-0 absent c.in_ok-matches.ensures.taken (rw c.in_ok-matches.ensures.rows at c.in_ok-said_by.ensures.says)
