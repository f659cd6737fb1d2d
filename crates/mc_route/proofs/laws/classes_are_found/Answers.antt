use Rattle.mc_route.proofs.Finding.{finds_classes}
use Rattle.mc_route.proofs.laws.classes_are_found.Goals as goal

pub returns : goal.returns
returns c = finds_classes
