use Rattle.tm_client.proofs.Living as proof
use Rattle.tm_client.proofs.laws.held_is_live.Goals as goal

pub returns : goal.returns
returns g c = proof.held_is_live g.S.Entrusted.kind
