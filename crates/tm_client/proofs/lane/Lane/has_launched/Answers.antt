use Rattle.tm_client.proofs.Fronts.{some_in}
use Rattle.tm_client.proofs.lane.Lane.has_launched.Goals as goal

pub returns : goal.returns
returns g c = some_in c.args.self.now.launched.items c.is_empty.result c.is_empty.ensures
