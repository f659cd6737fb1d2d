use Rattle.std.proofs.Common.{arith}
use Rattle.tm_pair.proofs.Opening.{no_places, one_more_place}
use Rattle.tm_pair.proofs.opened.new_places.Goals as goal

pub loop-init : goal.loop-init
loop-init g c = record { count = c.new-places.ensures.len; new = no_places _ c.new-places.ensures.items }

pub loop-preserved : goal.loop-preserved
loop-preserved g c = record {
  count = omega (arith, c.in_ok-push.ensures.len, c.loop.invariant.count);
  new = one_more_place c.loop.places.items c.new.result _ c.in_ok-push.ensures.items c.loop.invariant.new c.new.ensures;
}
