use Rattle.tm_client.proofs.Tickets as proof
use Rattle.tm_client.proofs.laws.tickets_tell.Goals as goal

pub returns : goal.returns
returns g c = proof.tickets_tell g.S.Entrusted.kind
