use Rattle.tm_core.proofs.Keeps.{first_good}
use Rattle.tm_core.proofs.laws.first_slots_are_good.Goals as goal

pub returns : goal.returns
returns g c = first_good g.L.SlotLog.mark g.L.SlotLog.out g.L.SlotLog.legal
