use Rattle.std.proofs.Common.{sym, ◌∙◌}
use Rattle.std.proofs.lemmas.Int.{to_z-of_z}
use Rattle.mc_shard.proofs.Outcomes.{get_touch_missing, get_touch_done, missing_of, there_of}
use Rattle.mc_shard.proofs.state.State.get_touch.Goals as goal

pub returns-in_default-clause-ok : goal.returns-in_default-clause-ok
returns-in_default-clause-ok c =
    rw c.settle.ensures (get_touch_missing c.args.self.now c.args.moment c.args.key c.args.exptime (missing_of _ (sym c.in_default.is ∙ c.in_ok-reply.ensures)))

pub set_due-requires : goal.set_due-requires
set_due-requires c = there_of _ c.in-Some.reply (sym c.in-Some.is ∙ c.in_ok-reply.ensures)

pub returns-clause-ok : goal.returns-clause-ok
returns-clause-ok c =
    rw (c.in_ok-set_due.ensures.ok, c.due-due.ensures.due, to_z-of_z _ _ c.ranges.exptime, c.latest.ensures.is)
    (get_touch_done c.args.self.now c.args.moment c.args.key c.args.exptime c.in-Some.reply (sym c.in-Some.is ∙ c.in_ok-reply.ensures))
