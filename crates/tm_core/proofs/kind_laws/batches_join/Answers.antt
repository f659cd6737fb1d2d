use Rattle.tm_core.proofs.Joins as joins
use Rattle.tm_core.proofs.kind_laws.batches_join.Goals as goal

pub returns : goal.returns
returns g c = joins.batches_join g.S.Entrusted.kind
