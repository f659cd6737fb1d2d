use Rattle.std.proofs.Common.{ap}
use Rattle.mc_shard.proofs.Steps.{order_none}
use Rattle.mc_shard.proofs.items.Items.new.Goals as goal

pub invariant_of-result : goal.invariant_of-result
invariant_of-result c =
    let is = c.in_ok-unbounded_with_hasher.ensures in
    order_none _ _ _ 0 c.args.bound (ap (λ l. l.entries) is) c.new.ensures.empty (ap (λ l. l.cap) is) c.requires.some c.requires.most
