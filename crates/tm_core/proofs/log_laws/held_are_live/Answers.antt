use Rattle.tm_core.proofs.Promised as promised
use Rattle.tm_core.proofs.log_laws.held_are_live.Goals as goal

pub returns : goal.returns
returns g c = promised.held_are_live g.S.Entrusted.kind
