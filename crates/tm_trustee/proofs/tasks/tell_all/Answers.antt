use Rattle.std.proofs.Common.{rules, arith}
use Rattle.tm_trustee.proofs.Telling as telling
use Rattle.tm_trustee.proofs.tasks.tell_all.Goals as goal

pub loop-i-init : goal.loop-i-init
loop-i-init g c = record {
  from = telling.from_first g.S.Entrusted.kind c.args.number c.args.held.now c.args.made.now c.args.state.now c.args.lanes.now.items c.requires.going;
  count = search rules;
  told = λ k lane lt at. absurd (omega (arith, lt));
}

pub tell_lane-requires : goal.tell_lane-requires
tell_lane-requires g c =
    let i = c.loop-i.invariant in
    let many = i.from.as_many in
    let count = i.count in
    record { going = i.from.going; index = omega (arith, c.loop-i-test.true, many, count) }

pub loop-i-preserved : goal.loop-i-preserved
loop-i-preserved g c =
    let i = c.loop-i.invariant in
    let tells = c.tell_lane.ensures in record {
      from =
          telling.from_on g.S.Entrusted.kind c.args.number c.args.held.now c.args.made.now c.loop-i.made c.tell_lane.new.made c.args.state.now c.loop-i.state
          c.tell_lane.new.state c.args.lanes.now.items c.loop-i.lanes.items c.tell_lane.new.lanes.items i.from tells.goes tells.made tells.as_many;
      count = i.count;
      told = telling.told_next c.loop-i.i c.loop-i.lanes.items c.tell_lane.new.lanes.items tells.as_many i.told tells.told tells.others;
    }

pub returns : goal.returns
returns g c =
    let i = c.loop-i.invariant in
    let many = i.from.as_many in
    let count = i.count in record {
      goes = i.from.goes;
      made = i.from.made;
      told = telling.told_all c.loop-i.i c.loop-i.lanes.items (omega (arith, c.loop-i-test.false, many, count)) i.told;
    }
