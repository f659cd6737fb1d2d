use Rattle.tm_core.proofs.Keeps.{see_keeps}
use Rattle.tm_core.proofs.laws.see_keeps_slots.Goals as goal

pub returns : goal.returns
returns g c = see_keeps g.L.SlotLog.mark g.L.SlotLog.out g.L.SlotLog.legal
