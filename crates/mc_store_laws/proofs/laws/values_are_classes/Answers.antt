use Rattle.mc_store_laws.proofs.PartRuns as proof
use Rattle.mc_store_laws.proofs.laws.values_are_classes.Goals as goal

pub returns : goal.returns
returns c = proof.values_are_classes
