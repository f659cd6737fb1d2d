use Rattle.std.proofs.Common.{length}
use Rattle.mc_reference.proofs.plain.+find_live.Given as goal

abbrev pub decreases-find_live : goal.decreases-find_live
decreases-find_live l = length l.items.now
