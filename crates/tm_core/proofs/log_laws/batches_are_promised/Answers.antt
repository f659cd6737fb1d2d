use Rattle.tm_core.proofs.Promised as promised
use Rattle.tm_core.proofs.log_laws.batches_are_promised.Goals as goal

pub returns : goal.returns
returns g c = promised.batches_are_promised g.S.Entrusted.kind
