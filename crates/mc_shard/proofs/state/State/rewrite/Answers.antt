use Rattle.mc_model.specs.Rows.{with_value}
use Rattle.mc_shard.proofs.Settled.{found_there, change_class}
use Rattle.mc_shard.proofs.state.State.rewrite.Goals as goal

pub rewrite-requires-clause-there : goal.rewrite-requires-clause-there
rewrite-requires-clause-there c =
    let i = c.self.inside in
    found_there i.class i.items i.changes i.stored i.pending c.args.moment c.latest-now.result c.args.key.now
    (rw (← c.self.view_is) at c.latest-now.ensures.is) (rw (← c.self.view_is) at c.requires)

pub returns : goal.returns
returns c =
    let i = c.self.inside in
    rw (← c.self.view_is) (change_class i.class i.items i.changes i.stored i.pending (with_value c.args.value c.args.cas) c.rewrite.new.self c.args.moment c.latest-now.result c.args.key.now
    (rw (← c.self.view_is) at c.latest-now.ensures.is) (rw (← c.self.view_is) at c.requires) c.rewrite.ensures)
