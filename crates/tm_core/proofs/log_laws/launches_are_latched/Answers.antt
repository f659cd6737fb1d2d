use Rattle.tm_core.proofs.Latching as latching
use Rattle.tm_core.proofs.log_laws.launches_are_latched.Goals as goal

pub returns : goal.returns
returns g c = latching.launches_are_latched g.S.Entrusted.kind
