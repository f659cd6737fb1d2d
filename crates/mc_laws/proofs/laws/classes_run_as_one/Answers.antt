use Rattle.mc_laws.proofs.Runs.{run_as_one}
use Rattle.mc_laws.proofs.laws.classes_run_as_one.Goals as goal

pub returns : goal.returns
returns c = run_as_one
