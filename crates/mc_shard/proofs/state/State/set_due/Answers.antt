use Rattle.std.proofs.lemmas.Result.{on_ok_weaker}
use Rattle.mc_model.specs.Rows.{with_due}
use Rattle.mc_shard.proofs.Settled.{found_there, use_class}
use Rattle.mc_shard.proofs.state.State.set_due.Goals as goal

pub use_until-requires-clause-there : goal.use_until-requires-clause-there
use_until-requires-clause-there c =
    let i = c.self.inside in
    found_there i.class i.items i.changes i.stored i.pending c.args.moment c.latest-now.result c.args.key
    (rw (← c.self.view_is) at c.latest-now.ensures.is) (rw (← c.self.view_is) at c.requires)

pub returns-clause-ok : goal.returns-clause-ok
returns-clause-ok c =
    let i = c.self.inside in
    on_ok_weaker c.use_until.result (λ e. rw (← c.self.view_is) (use_class i.class i.items i.changes i.stored i.pending (with_due c.args.due) c.use_until.new.self c.args.moment c.latest-now.result c.args.key
    (rw (← c.self.view_is) at c.latest-now.ensures.is) (rw (← c.self.view_is) at c.requires) e)) c.use_until.ensures.ok
