use Rattle.tm_core.proofs.Keeps.{collect_keeps}
use Rattle.tm_core.proofs.laws.collect_keeps_slots.Goals as goal

pub returns : goal.returns
returns g c = collect_keeps g.L.SlotLog.mark g.L.SlotLog.out g.L.SlotLog.legal
