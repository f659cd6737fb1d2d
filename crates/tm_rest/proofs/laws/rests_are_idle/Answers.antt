use Rattle.tm_rest.proofs.Idle as proof
use Rattle.tm_rest.proofs.laws.rests_are_idle.Goals as goal

pub returns : goal.returns
returns g c = proof.rests_are_idle _ g.S.Entrusted.kind
