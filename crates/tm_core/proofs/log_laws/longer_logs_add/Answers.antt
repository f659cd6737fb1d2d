use Rattle.tm_core.proofs.Longer as longer
use Rattle.tm_core.proofs.log_laws.longer_logs_add.Goals as goal

pub returns : goal.returns
returns g c = longer.longer_logs_add g.S.Entrusted.kind
