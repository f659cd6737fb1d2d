use Rattle.mc_route.proofs.Placed.{one_shard_more}
use Rattle.mc_route.proofs.places.store_first.Goals as goal

pub loop-class-preserved : goal.loop-class-preserved
loop-class-preserved c =
    one_shard_more c.args.clients c.args.trustees c.args.bound _ _ c.loop-class.class c.trustee_of.result c.in_ok-shard.shard c.in_ok-places_below.field-0
    c.loop-class.invariant c.trustee_of.ensures c.in_ok-shard.ensures c.in_ok-places_below.ensures c.in_ok-push.ensures.items
