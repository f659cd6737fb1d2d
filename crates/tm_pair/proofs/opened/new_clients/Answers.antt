use Rattle.std.proofs.Common.{arith, sym, ◌∙◌}
use Rattle.tm_pair.proofs.Opening.{no_clients, one_more_client}
use Rattle.tm_pair.proofs.opened.new_clients.Goals as goal

pub loop-place-init : goal.loop-place-init
loop-place-init g c = record { count = c.new-clients.ensures.len; new = no_clients _ _ c.new-clients.ensures.items }

pub loop-place-preserved : goal.loop-place-preserved
loop-place-preserved g c = record {
  count = omega (arith, c.in_ok-push.ensures.len, c.loop-place.invariant.count);
  new = one_more_client _ c.loop-place.clients.items _ _ c.in_ok-push.ensures.items c.loop-place.invariant.new
      (record { place = sym c.loop-place.invariant.count ∙ c.loop-place.clients.ok.0; past = c.opened.ensures });
}
