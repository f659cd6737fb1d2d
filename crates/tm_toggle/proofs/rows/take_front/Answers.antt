use Rattle.std.proofs.Common.{◌<◌, length, take, arith, length-take-le}
use Rattle.tm_toggle.proofs.Fronts.{one_taken, one_further}
use Rattle.tm_toggle.proofs.rows.take_front.Goals as goal

pub loop-item-preserved : goal.loop-item-preserved
loop-item-preserved g c =
    let all = take c.args.count c.args.row.now in
    let had = c.loop-item.invariant in
    let lt : c.loop-item.item-index < length all = omega (arith, c.loop-item-test.true, length-take-le c.args.count c.args.row.now c.requires.count) in
    record {
      taken = one_taken c.loop-item.item-items all _ _ c.loop-item.item-index c.item-item.result c.take.result had.rest c.item-item.is c.take.ensures.value lt had.taken c.push.ensures.items;
      rest = one_further c.loop-item.item-items all c.loop-item.item-index c.take.new.dest had.rest;
    }
