use Rattle.tm_core.proofs.ClientHolds as holds
use Rattle.tm_core.proofs.client_laws.logs_tell_holds.Goals as goal

pub returns : goal.returns
returns g c = holds.logs_tell_holds g.S.Entrusted.kind
