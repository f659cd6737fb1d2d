use Rattle.std.proofs.Common.{length, ap, sym, ◌∙◌}
use Rattle.mc_shard.proofs.Steps.{all_live_now}
use Rattle.mc_shard.proofs.items.Items.held.Goals as goal

pub returns : goal.returns
returns c =
    let s = c.self.inside in
    let o = c.self.invariant in
    rw (← c.self.view_is) (c.len.ensures.len ∙ sym (ap length (all_live_now s.cache.entries s.cache.cap s.index.keys s.late s.moment s.bound o)))
