use Rattle.std.proofs.Common.{length}
use Rattle.mc_reference.proofs.plain.+find.Given as goal

abbrev pub decreases-find : goal.decreases-find
decreases-find l = length l.items.now
