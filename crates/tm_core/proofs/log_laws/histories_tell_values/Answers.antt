use Rattle.tm_core.proofs.Histories as histories
use Rattle.tm_core.proofs.log_laws.histories_tell_values.Goals as goal

pub returns : goal.returns
returns g c = histories.histories_tell_values g.S.Entrusted.kind
