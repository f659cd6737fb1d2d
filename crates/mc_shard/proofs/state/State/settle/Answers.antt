use Rattle.std.proofs.Common.{sym}
use Rattle.mc_shard.proofs.Settled.{settled_due, class_of_parts}
use Rattle.mc_shard.proofs.state.State.settle.Goals as goal

pub returns-then-is_flush_due : goal.returns-then-is_flush_due
returns-then-is_flush_due c =
    let i = c.self.inside in
    rw (c.clear.ensures, ← c.self.view_is) (settled_due (class_of_parts i.class i.items i.changes i.stored i.pending) c.args.moment c.latest-now.result
    (rw (← c.self.view_is) at c.latest-now.ensures.is) (rw (← c.self.view_is) at (sym c.if-is_flush_due.ensures)))
