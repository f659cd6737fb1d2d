use Rattle.tm_laws.proofs.Running as proof
use Rattle.tm_laws.proofs.laws.objects_run.Goals as goal

pub returns : goal.returns
returns g c = proof.objects_run g.S.Entrusted.kind
