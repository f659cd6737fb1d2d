use Rattle.tm_core.proofs.LogTallied as tallied
use Rattle.tm_core.proofs.kind_laws.answer_keeps_good.Goals as goal

pub returns : goal.returns
returns g c = tallied.answer_keeps_good g.S.Entrusted.kind
