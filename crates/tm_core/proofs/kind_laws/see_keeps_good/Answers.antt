use Rattle.tm_core.proofs.Accounts as accounts
use Rattle.tm_core.proofs.kind_laws.see_keeps_good.Goals as goal

pub returns : goal.returns
returns g c = accounts.see_keeps_good g.S.Entrusted.kind
