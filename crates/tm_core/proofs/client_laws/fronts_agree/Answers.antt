use Rattle.tm_core.proofs.Agreeing as agreeing
use Rattle.tm_core.proofs.client_laws.fronts_agree.Goals as goal

pub returns : goal.returns
returns g c = agreeing.fronts_agree g.S.Entrusted.kind
