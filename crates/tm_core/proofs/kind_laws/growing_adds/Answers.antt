use Rattle.tm_core.proofs.Joins as joins
use Rattle.tm_core.proofs.kind_laws.growing_adds.Goals as goal

pub returns : goal.returns
returns g c = joins.growing_adds g.S.Entrusted.kind
