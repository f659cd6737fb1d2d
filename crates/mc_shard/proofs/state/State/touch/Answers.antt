use Rattle.std.proofs.lemmas.Int.{to_z-of_z}
use Rattle.mc_shard.proofs.Outcomes.{touch_missing, touch_done, missing, there}
use Rattle.mc_shard.proofs.state.State.touch.Goals as goal

pub returns-then-is_none-clause-ok : goal.returns-then-is_none-clause-ok
returns-then-is_none-clause-ok c =
    rw c.settle.ensures (touch_missing c.args.self.now c.args.moment c.args.key c.args.exptime (missing c.found.result _ c.found.ensures c.if-is_none.ensures))

pub returns-clause-ok : goal.returns-clause-ok
returns-clause-ok c =
    rw (c.in_ok-set_due.ensures.ok, c.due-due.ensures.due, to_z-of_z _ _ c.ranges.exptime, c.latest.ensures.is)
    (touch_done c.args.self.now c.args.moment c.args.key c.args.exptime (there c.found.result _ c.found.ensures c.if-is_none.ensures))
