use Rattle.mc_route.proofs.LaunchSteps.{asks_each}
use Rattle.mc_route.proofs.laws.desk_asks_each_class.Goals as goal

pub returns : goal.returns
returns c = asks_each
