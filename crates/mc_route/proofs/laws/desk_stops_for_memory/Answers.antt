use Rattle.mc_route.proofs.LaunchSteps.{stops_for_memory}
use Rattle.mc_route.proofs.laws.desk_stops_for_memory.Goals as goal

pub returns : goal.returns
returns c = stops_for_memory
