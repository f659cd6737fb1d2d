use Rattle.tm_client.proofs.Fronts.{ok_then}
use Rattle.tm_client.proofs.post.post.Goals as goal

pub returns-clause-publishes : goal.returns-clause-publishes
returns-clause-publishes g c = ok_then c.publish.result _ (c.publish.ensures.free.1 c.requires.free) c.publish.ensures.ok
