use Rattle.tm_core.proofs.Runs as runs
use Rattle.tm_core.proofs.laws.steps_keep_slots.Goals as goal

pub returns : goal.returns
returns c = runs.steps_keep_slots
