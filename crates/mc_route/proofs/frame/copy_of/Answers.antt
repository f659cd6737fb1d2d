use Rattle.mc_route.proofs.Placed.{one_taken_more}
use Rattle.mc_route.proofs.frame.copy_of.Goals as goal

pub loop-at-preserved : goal.loop-at-preserved
loop-at-preserved c =
    one_taken_more c.args.keys.now _ _ c.loop-at.at c.get.result.now c.in_ok-clone.field-0 c.get.ensures c.in_ok-clone.ensures.cases c.loop-at.invariant c.in_ok-push.ensures.ok
