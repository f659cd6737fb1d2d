use Rattle.tm_asking.proofs.Joining as proof
use Rattle.tm_asking.proofs.laws.some_are_all.Goals as goal

pub returns : goal.returns
returns g c = proof.some_as_all
