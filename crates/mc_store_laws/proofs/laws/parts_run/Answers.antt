use Rattle.mc_store_laws.proofs.PartRuns as proof
use Rattle.mc_store_laws.proofs.laws.parts_run.Goals as goal

pub returns : goal.returns
returns c = proof.parts_run c.parts_are_steps.ensures
