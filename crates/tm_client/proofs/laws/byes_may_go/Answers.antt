use Rattle.tm_client.proofs.Going as proof
use Rattle.tm_client.proofs.laws.byes_may_go.Goals as goal

pub returns : goal.returns
returns g c = proof.byes_may_go g.S.Entrusted.kind
