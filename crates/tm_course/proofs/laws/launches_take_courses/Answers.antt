use Rattle.tm_course.proofs.Tickets as proof
use Rattle.tm_course.proofs.laws.launches_take_courses.Goals as goal

pub returns : goal.returns
returns g c = proof.launches_take_courses g.S.Entrusted.kind
