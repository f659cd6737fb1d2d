use Rattle.tm_core.proofs.Joins as joins
use Rattle.tm_core.proofs.kind_laws.legal_logs_join.Goals as goal

pub returns : goal.returns
returns g c = joins.legal_logs_join g.S.Entrusted.kind
