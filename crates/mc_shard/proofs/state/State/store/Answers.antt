use Rattle.std.proofs.Common.{sym, ◌∙◌}
use Rattle.std.proofs.lemmas.Int.{to_z-of_z}
use Rattle.mc_shard.proofs.Outcomes.{store_refused, store_done}
use Rattle.mc_shard.proofs.state.State.store.Goals as goal

pub returns-in-Some-clause-ok : goal.returns-in-Some-clause-ok
returns-in-Some-clause-ok c =
    rw c.settle.ensures (store_refused c.args.self.now c.args.moment c.args.key c.args.how c.args.flags c.args.exptime c.args.value c.in-Some.refusal
    (rw (← c.len.ensures) (sym c.in-Some.ensures.why)))

pub returns-clause-ok : goal.returns-clause-ok
returns-clause-ok c =
    rw (c.count_store.ensures, c.count_change.ensures, c.in_ok-write.ensures.ok, to_z-of_z _ _ c.ranges.exptime)
    (store_done c.args.self.now c.args.moment c.args.key c.args.how c.args.flags c.args.exptime c.args.value
    (rw (← c.len.ensures) (sym c.store_refusal.ensures.why ∙ c.in_default.is)))
