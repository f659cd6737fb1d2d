use Rattle.tm_core.proofs.AnswerKeeps.{answer_keeps}
use Rattle.tm_core.proofs.laws.answer_keeps_slots.Goals as goal

pub returns : goal.returns
returns g c = answer_keeps g.L.SlotLog.mark g.L.SlotLog.out g.L.SlotLog.legal
