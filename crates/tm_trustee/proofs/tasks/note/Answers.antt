use Rattle.std.proofs.Common.{refl}
use Rattle.tm_trustee.proofs.Noting.{noted}
use Rattle.tm_trustee.proofs.tasks.note.Goals as goal

pub returns-in-Asked : goal.returns-in-Asked
returns-in-Asked g c =
    rw c.in-Asked.is
    (noted c.args.number c.in-Asked.trustee c.in-Asked.index _ c.in-Asked.op c.in-Asked.launch c.args.lanes.now.items (rw c.in-Asked.is at c.requires) refl
    c.index_mut.result.now c.index_mut.ensures.value c.ask.new.self c.ask.ensures)
