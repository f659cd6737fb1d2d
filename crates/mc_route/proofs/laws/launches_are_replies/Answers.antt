use Rattle.mc_route.proofs.ClassReplies.{launches_are_replies}
use Rattle.mc_route.proofs.laws.launches_are_replies.Goals as goal

pub returns : goal.returns
returns c = launches_are_replies
