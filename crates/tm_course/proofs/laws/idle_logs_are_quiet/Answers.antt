use Rattle.tm_course.proofs.Idle as proof
use Rattle.tm_course.proofs.laws.idle_logs_are_quiet.Goals as goal

pub returns : goal.returns
returns g c = proof.idle_logs_are_quiet g.S.Entrusted.kind
