use Rattle.tm_order.proofs.Rising as proof
use Rattle.tm_order.proofs.laws.asks_rise.Goals as goal

pub returns : goal.returns
returns g c = proof.asks_rise _ g.S.Entrusted.kind
