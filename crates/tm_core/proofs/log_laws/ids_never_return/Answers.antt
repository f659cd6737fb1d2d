use Rattle.tm_core.proofs.Longer as longer
use Rattle.tm_core.proofs.log_laws.ids_never_return.Goals as goal

pub returns : goal.returns
returns g c = longer.ids_never_return g.S.Entrusted.kind
