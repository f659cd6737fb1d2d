use Rattle.tm_core.proofs.EndingOnce as ending_once
use Rattle.tm_core.proofs.log_laws.completions_are_of_launches.Goals as goal

pub returns : goal.returns
returns g c = ending_once.completions_are_of_launches g.S.Entrusted.kind
