use Rattle.std.proofs.Common.{arith}
use Rattle.tm_trustee.proofs.LaneNews as news
use Rattle.tm_trustee.proofs.lane.new_lanes.Goals as goal

pub loop-i-init : goal.loop-i-init
loop-i-init g c = record { lanes = news.no_lanes c.args.number c.args.room c.args.nested.now c.in_ok-lanes.lanes.items c.in_ok-lanes.ensures.items; capacity = c.in_ok-lanes.ensures.capacity }

pub loop-i-preserved : goal.loop-i-preserved
loop-i-preserved g c = record {
  lanes = news.one_lane c.args.number c.args.room c.args.nested.now c.loop-i.i c.loop-i.lanes.items c.push_reserved.new.self.items _ c.loop-i.invariant.lanes
      c.in_ok-new.ensures c.push_reserved.ensures.items;
  capacity = omega (arith, c.push_reserved.ensures.capacity, c.loop-i.invariant.capacity);
}
