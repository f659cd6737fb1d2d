use Rattle.tm_core.proofs.Openings as openings
use Rattle.tm_core.proofs.client_laws.openings_give.Goals as goal

pub returns : goal.returns
returns g c = openings.openings_give g.S.Entrusted.kind
