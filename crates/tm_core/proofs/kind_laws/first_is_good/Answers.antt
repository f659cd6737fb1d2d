use Rattle.tm_core.proofs.First as first
use Rattle.tm_core.proofs.kind_laws.first_is_good.Goals as goal

pub returns : goal.returns
returns g c = first.first_is_good g.S.Entrusted.kind
