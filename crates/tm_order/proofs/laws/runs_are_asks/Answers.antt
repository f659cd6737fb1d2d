use Rattle.tm_order.proofs.Running as proof
use Rattle.tm_order.proofs.laws.runs_are_asks.Goals as goal

pub returns : goal.returns
returns g c = proof.runs_are_asks _ g.S.Entrusted.kind
