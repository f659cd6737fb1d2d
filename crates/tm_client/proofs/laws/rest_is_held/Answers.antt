use Rattle.tm_client.proofs.Going as proof
use Rattle.tm_client.proofs.laws.rest_is_held.Goals as goal

pub returns : goal.returns
returns g c = proof.rest_is_held g.S.Entrusted.kind
