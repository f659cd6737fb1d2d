use Rattle.std.proofs.Common.{◌≡◌, ◌<◌, ◌∙◌, length, take, drop, ap, refl, arith, min, length-drop}
use Rattle.tm_reference.proofs.Leaves.{front_more, take_least, drop_least}
use Rattle.tm_reference.proofs.place.move_front.Goals as goal

pub loop-init : goal.loop-init
loop-init g c =
    record {
      front = c.requires.none;
      left = refl;
      count = omega (arith, ap (λ (l : _). length l) c.requires.none, c.args.taken.now.ok.0);
      room = c.requires.room;
    }

pub loop-preserved : goal.loop-preserved
loop-preserved g c =
    let within : c.loop.counter < length c.args.items.now.items =
    omega (arith, c.loop-test.true, c.min-end.ensures, c.len.ensures, c.args.items.now.ok.0) in
    let more =
    front_more c.args.items.now.items c.loop.taken.items c.loop.items.items c.loop.counter _ within c.loop.invariant.front c.loop.invariant.left
    c.remove.ensures.value in
    record {
      front = (rw c.unwrap.ensures at c.push.ensures.items) ∙ more.0;
      left = c.remove.ensures.items ∙ more.1;
      count = omega (arith, rw c.unwrap.ensures at c.push.ensures.len, c.loop.invariant.count);
      room = omega (arith, c.push.ensures.capacity, c.loop.invariant.room);
    }

pub remove-requires : goal.remove-requires
remove-requires g c =
    omega (
      arith,
      c.loop-test.true,
      c.min-end.ensures,
      c.len.ensures,
      c.args.items.now.ok.0,
      c.loop.items.ok.0,
      ap (λ (l : _). length l) c.loop.invariant.left,
      length-drop c.loop.counter c.args.items.now.items,
    )

pub unwrap-requires : goal.unwrap-requires
unwrap-requires g c = c.push.ensures.succeeds (omega (arith, c.loop-test.true, c.min-end.ensures, c.loop.invariant.count, c.loop.invariant.room))

pub returns : goal.returns
returns g c =
    let at : c.loop.counter ≡ c.min-end.result = omega (arith, c.loop-test.false, c.loop.auto.counter-end) in
    let count : c.len.result ≡ length c.args.items.now.items = omega (arith, c.len.ensures, c.args.items.now.ok.0) in
    let end = at ∙ c.min-end.ensures ∙ ap (λ n. min n c.args.most) count in
    record {
      taken = c.loop.invariant.front ∙ ap (λ n. take n c.args.items.now.items) end ∙ take_least c.args.items.now.items c.args.most;
      left = c.loop.invariant.left ∙ ap (λ n. drop n c.args.items.now.items) end ∙ drop_least c.args.items.now.items c.args.most;
    }
