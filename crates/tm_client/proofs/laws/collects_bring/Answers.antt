use Rattle.tm_client.proofs.Bringing as proof
use Rattle.tm_client.proofs.laws.collects_bring.Goals as goal

pub returns : goal.returns
returns g c = proof.collects_bring g.S.Entrusted.kind
