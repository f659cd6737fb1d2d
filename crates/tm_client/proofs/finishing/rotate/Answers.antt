use Rattle.std.proofs.Common.{◌∙◌, arith}
use Rattle.tm_client.proofs.Ended.{rotated, as_long}
use Rattle.tm_client.proofs.finishing.rotate.Goals as goal

pub send_behind-requires : goal.send_behind-requires
send_behind-requires g c =
    let long = c.loop.invariant.long in
    let capacity = c.loop.invariant.capacity in
    let fits = c.requires.fits in
    omega (arith, long, capacity, fits)

pub loop-preserved : goal.loop-preserved
loop-preserved g c =
    let is = c.loop.invariant in
    let count = c.requires.count in
    let lt = c.loop-test.true in
    record {
      items =
          rotated c.args.ring.now.items c.loop.ring.items c.send_behind.new.ring.items c.loop.counter (omega (arith, count, lt)) is.items c.send_behind.ensures.items;
      long = as_long c.loop.ring.items c.send_behind.new.ring.items c.send_behind.ensures.items ∙ is.long;
      capacity = c.send_behind.ensures.capacity ∙ is.capacity;
    }
