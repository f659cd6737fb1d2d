use Rattle.mc_shard.proofs.Steps.{order_settled, settled_view}
use Rattle.mc_shard.proofs.items.Items.settle.Goals as goal

pub invariant_of-self : goal.invariant_of-self
invariant_of-self c =
    let s = c.self.inside in
    let o = c.self.invariant in
    order_settled s.cache.entries s.cache.cap s.index.keys s.late s.moment s.bound o c.sweep.new.cache.entries c.sweep.new.cache.cap c.args.now c.sweep.new.index.keys c.sweep.ensures.swept c.sweep.ensures.cap c.sweep.ensures.paired

pub returns : goal.returns
returns c =
    let s = c.self.inside in
    let o = c.self.invariant in
    rw (← c.self.view_is) (settled_view s.cache.entries s.cache.cap s.index.keys s.late s.moment s.bound o c.sweep.new.cache.entries c.args.now (rw (← c.self.view_is) at c.requires) c.sweep.ensures.swept)
