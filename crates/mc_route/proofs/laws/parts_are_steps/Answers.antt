use Rattle.mc_route.proofs.PartSteps.{part_step}
use Rattle.mc_route.proofs.laws.parts_are_steps.Goals as goal

pub returns : goal.returns
returns c = part_step
