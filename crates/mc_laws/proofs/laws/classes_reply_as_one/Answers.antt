use Rattle.mc_laws.proofs.Commands.{reply_as_one}
use Rattle.mc_laws.proofs.laws.classes_reply_as_one.Goals as goal

pub returns : goal.returns
returns c = reply_as_one
