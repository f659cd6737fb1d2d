use Rattle.tm_client.proofs.Tickets as proof
use Rattle.tm_client.proofs.laws.collects_end.Goals as goal

pub returns : goal.returns
returns g c = proof.collects_end g.S.Entrusted.kind
