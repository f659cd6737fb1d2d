use Rattle.tm_core.proofs.Accounts as accounts
use Rattle.tm_core.proofs.kind_laws.collect_keeps_good.Goals as goal

pub returns : goal.returns
returns g c = accounts.collect_keeps_good g.S.Entrusted.kind
