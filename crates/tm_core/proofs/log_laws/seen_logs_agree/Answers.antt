use Rattle.tm_core.proofs.Agreeing as agreeing
use Rattle.tm_core.proofs.log_laws.seen_logs_agree.Goals as goal

pub returns : goal.returns
returns g c = agreeing.seen_logs_agree g.S.Entrusted.kind
