use Rattle.tm_order.proofs.Running as proof
use Rattle.tm_order.proofs.laws.launched_runs_rise.Goals as goal

pub returns : goal.returns
returns g c = proof.launched_runs_rise _ g.S.Entrusted.kind
