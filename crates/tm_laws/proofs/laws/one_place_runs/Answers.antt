use Rattle.tm_laws.proofs.Places as proof
use Rattle.tm_laws.proofs.laws.one_place_runs.Goals as goal

pub returns : goal.returns
returns g c = proof.one_place_runs
