use Rattle.mc_laws.proofs.Runs.{first_stand}
use Rattle.mc_laws.proofs.laws.first_classes_stand.Goals as goal

pub returns : goal.returns
returns c = first_stand
