use Rattle.std.proofs.Common.{refl}
use Rattle.std.proofs.lemmas.Bool.{false≢true}
use Rattle.mc_next.proofs.session.Session.end_of_input.Goals as goal

pub returns-then-is_between : goal.returns-then-is_between
returns-then-is_between c = (c.requires.quit, c.requires.at_end, λ limit text messages i. (c.if-is_between.ensures limit text messages i).0 refl)

pub returns-else-is_between : goal.returns-else-is_between
returns-else-is_between c = (c.requires.quit, c.requires.at_end, λ limit text messages i none. false≢true ((c.if-is_between.ensures limit text messages i).1 none))
