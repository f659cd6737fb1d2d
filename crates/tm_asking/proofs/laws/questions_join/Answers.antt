use Rattle.tm_asking.proofs.Joining as proof
use Rattle.tm_asking.proofs.laws.questions_join.Goals as goal

pub returns : goal.returns
returns g c = proof.questions_joined
