use Rattle.mc_route.proofs.Placed.{one_place_more}
use Rattle.mc_route.proofs.places.places_below.Goals as goal

pub loop-place-preserved : goal.loop-place-preserved
loop-place-preserved c = one_place_more _ _ c.loop-place.place c.loop-place.invariant c.in_ok-push.ensures.items
