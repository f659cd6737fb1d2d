use Rattle.tm_core.proofs.Replies as replies
use Rattle.tm_core.proofs.log_laws.replies_are_of_histories.Goals as goal

pub returns : goal.returns
returns g c = replies.replies_are_of_histories g.S.Entrusted.kind
