use Rattle.tm_asking.proofs.Joining as proof
use Rattle.tm_asking.proofs.laws.all_are_some.Goals as goal

pub returns : goal.returns
returns g c = proof.all_as_some
