use Rattle.mc_desk_laws.proofs.Ends as proof
use Rattle.mc_desk_laws.proofs.laws.desk_courses_are_replies.Goals as goal

pub returns : goal.returns
returns c = proof.desk_courses c.launches_are_replies.ensures
