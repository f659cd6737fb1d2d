use Rattle.mc_shard.specs.Kept.{same}
use Rattle.mc_shard.proofs.Settled.{found_there, use_class}
use Rattle.mc_shard.proofs.state.State.use_item.Goals as goal

pub use_item-requires-clause-there : goal.use_item-requires-clause-there
use_item-requires-clause-there c =
    let i = c.self.inside in
    found_there i.class i.items i.changes i.stored i.pending c.args.moment c.latest-now.result c.args.key.now
    (rw (← c.self.view_is) at c.latest-now.ensures.is) (rw (← c.self.view_is) at c.requires)

pub returns : goal.returns
returns c =
    let i = c.self.inside in
    rw (← c.self.view_is) (use_class i.class i.items i.changes i.stored i.pending same c.use_item.new.self c.args.moment c.latest-now.result c.args.key.now
    (rw (← c.self.view_is) at c.latest-now.ensures.is) (rw (← c.self.view_is) at c.requires) c.use_item.ensures)
