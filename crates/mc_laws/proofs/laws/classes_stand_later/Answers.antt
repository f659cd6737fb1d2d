use Rattle.mc_laws.proofs.Parts.{stand_later}
use Rattle.mc_laws.proofs.laws.classes_stand_later.Goals as goal

pub returns : goal.returns
returns c = stand_later
