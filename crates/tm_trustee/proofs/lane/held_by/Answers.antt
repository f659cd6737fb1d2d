use Rattle.std.proofs.Common.{arith}
use Rattle.tm_trustee.proofs.LaneNews as news
use Rattle.tm_trustee.proofs.lane.held_by.Goals as goal

pub loop-u-init : goal.loop-u-init
loop-u-init g c = record { counted = news.no_counts c.args.number c.args.lanes.now c.in_ok-held.held.items c.in_ok-held.ensures.items; capacity = c.in_ok-held.ensures.capacity }

pub loop-u-preserved : goal.loop-u-preserved
loop-u-preserved g c = record {
  counted = news.one_count c.args.number c.args.lanes.now c.loop-u.u c.held_at.result c.loop-u.held.items c.push_reserved.new.self.items c.loop-u.invariant.counted
      c.held_at.ensures c.push_reserved.ensures.items;
  capacity = omega (arith, c.push_reserved.ensures.capacity, c.loop-u.invariant.capacity);
}
