use Rattle.tm_core.proofs.Keeps.{publish_keeps}
use Rattle.tm_core.proofs.laws.publish_keeps_slots.Goals as goal

pub returns : goal.returns
returns g c = publish_keeps g.L.SlotLog.mark g.L.SlotLog.out g.L.SlotLog.legal
