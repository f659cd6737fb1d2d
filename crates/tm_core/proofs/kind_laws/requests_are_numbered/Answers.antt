use Rattle.tm_core.proofs.Numbering as numbering
use Rattle.tm_core.proofs.kind_laws.requests_are_numbered.Goals as goal

pub returns : goal.returns
returns g c = numbering.requests_are_numbered g.S.Entrusted.kind
