use Rattle.std.proofs.Common.{◌≡◌, ℕ, ◌<◌, length, Vec, Global, refl, ap, ◌∙◌, arith}
use Rattle.std.specs.Prelude.{map}
use Rattle.slab.specs.Slab.{get}
use Rattle.tm_objects.specs.Live.{LiveList, with_holds, kept}
use Rattle.tm_objects.specs.Listing.{if_held_beside}
use Rattle.tm_objects.proofs.At.{live_is}
use Rattle.tm_objects.proofs.Counted.{there_is, less_flags}
use Rattle.tm_objects.proofs.Swept.{swept_listed, swept_none, swept_step}
use Rattle.tm_objects.proofs.live.LiveObjects.drop_holds.Goals as goal

pub loop-key-init : goal.loop-key-init
loop-key-init g c = record {
  sound = c.self.invariant.0;
  counted = c.self.invariant.1;
  done = swept_none c.self.invariant.0 c.self.invariant.1 c.args.place;
  fewer = omega arith;
  given = refl;
  most = refl;
  places = refl;
}

pub loop-key-smaller : goal.loop-key-smaller
loop-key-smaller g c =
    let i = c.loop-key.invariant in
    let within : c.args.place < length c.loop-key.self-inside.held.items = let e = ap (λ (s : LiveList g.row.V.Denot). s.places) c.self.view_is in omega (arith, e, c.requires, i.counted.sets) in
    rw c.in-Some.ensures.taken (less_flags c.loop-key.self-inside.held.items c.args.place c.in-Some.key within c.in-Some.ensures.was)

pub loop-key-preserved : goal.loop-key-preserved
loop-key-preserved g c =
    let i = c.loop-key.invariant in
    let f = λ (row : Vec ℕ Global). row.items in
    let within : c.args.place < c.self.inside.places = let e = ap (λ (s : LiveList g.row.V.Denot). s.places) c.self.view_is in omega (arith, e, c.requires) in
    let there = there_is i.counted c.args.place c.in-Some.key c.in-Some.ensures.was in
    let s = swept_step i.sound i.counted c.self.inside.slots c.drop_held.new.slots (map f c.drop_held.new.spare.items) c.args.place c.in-Some.key there.0 within there.1 c.in-Some.ensures.was i.done
    (rw there.1 at c.drop_held.ensures.dropped) in
    record {
      sound = rw c.drop_held.ensures.capacity s.0;
      counted = rw c.in-Some.ensures.taken s.1;
      done = rw c.in-Some.ensures.taken s.2;
      fewer = omega (arith, s.3, i.fewer);
      given = i.given;
      most = i.most;
      places = i.places;
    }

pub returns-clause-taken : goal.returns-clause-taken
returns-clause-taken g c =
    let i = c.loop-key.invariant in
    let all : (j : ℕ) → get c.loop-key.self-inside.slots j ≡ if_held_beside c.args.place (get c.self.inside.slots j) = λ j. i.done j ∙ rw (c.in_default.ensures.none j) refl in
    rw (i.given, i.most, i.places)
    (live_is _ _ _ (λ l. kept (map (λ o. with_holds c.args.place 0 o) l)) c.self.view_is
    (swept_listed c.self.inside.slots c.loop-key.self-inside.slots c.args.place c.self.inside.given c.self.invariant.0.apart i.sound.apart all))
