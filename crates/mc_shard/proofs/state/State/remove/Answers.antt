use Rattle.std.proofs.Common.{ap, sym, is_some, ◌∙◌}
use Rattle.mc_shard.proofs.Settled.{found_due, found_live, remove_class, remove_due, class_of_parts}
use Rattle.mc_shard.proofs.state.State.remove.Goals as goal

pub returns-then-is_flush_due-clause-there : goal.returns-then-is_flush_due-clause-there
returns-then-is_flush_due-clause-there c =
    sym (ap (λ o. is_some o) (found_due c.args.self.now c.args.moment c.latest-now.result c.args.key.now c.latest-now.ensures.is (sym c.if-is_flush_due.ensures)))

pub returns-then-is_flush_due-clause-gone : goal.returns-then-is_flush_due-clause-gone
returns-then-is_flush_due-clause-gone c =
    let i = c.self.inside in
    rw (c.clear.ensures, ← c.self.view_is) (remove_due (class_of_parts i.class i.items i.changes i.stored i.pending) c.args.moment c.latest-now.result c.args.key.now
    (rw (← c.self.view_is) at c.latest-now.ensures.is) (rw (← c.self.view_is) at (sym c.if-is_flush_due.ensures)))

pub returns-clause-there : goal.returns-clause-there
returns-clause-there c =
    let i = c.self.inside in
    c.remove.ensures.there ∙ rw (← c.self.view_is) (ap (λ o. is_some o) (sym (found_live (class_of_parts i.class i.items i.changes i.stored i.pending) c.args.moment c.latest-now.result c.args.key.now
    (rw (← c.self.view_is) at c.latest-now.ensures.is) (rw (← c.self.view_is) at (sym c.if-is_flush_due.ensures)))))

pub returns-clause-gone : goal.returns-clause-gone
returns-clause-gone c =
    let i = c.self.inside in
    rw (← c.self.view_is) (remove_class i.class i.items i.changes i.stored i.pending c.remove.new.self c.args.moment c.latest-now.result c.args.key.now
    (rw (← c.self.view_is) at c.latest-now.ensures.is) (rw (← c.self.view_is) at (sym c.if-is_flush_due.ensures)) c.remove.ensures.gone)
