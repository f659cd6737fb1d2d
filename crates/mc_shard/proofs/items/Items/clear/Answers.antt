use Rattle.std.proofs.Common.{ap, ◌∙◌}
use Rattle.mc_shard.proofs.Steps.{order_none}
use Rattle.mc_shard.proofs.items.Items.clear.Goals as goal

pub invariant_of-self : goal.invariant_of-self
invariant_of-self c =
    let o = c.self.invariant in
    order_none _ _ _ c.args.now c.self.inside.bound (ap (λ l. l.entries) c.clear.ensures) c.clear-2.ensures.empty (ap (λ l. l.cap) c.clear.ensures ∙ o.unbounded) o.some o.most
