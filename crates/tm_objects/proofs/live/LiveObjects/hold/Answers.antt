use Rattle.std.proofs.Common.{◌+◌, ◌<◌, length, refl, ap, ◌∙◌, arith, length-set, true}
use Rattle.tm_batch.specs.declared.limits.TheConstants.{MOST_HOLDS}
use Rattle.tm_objects.specs.Live.{Live, LiveList, holds_of, total, with_holds, change}
use Rattle.tm_objects.proofs.At.{sum-set, named_at, live_is, slot_has, found_at, sound_write, write_listed}
use Rattle.tm_objects.proofs.Counted.{counted_hold, holds_yes, key_within, place_within}
use Rattle.tm_objects.proofs.live.LiveObjects.hold.Goals as goal

pub key_of-key-requires : goal.key_of-key-requires
key_of-key-requires g c =
    slot_has c.self.invariant.0 _ _ (λ o. (holds_of o c.args.place < MOST_HOLDS) × (total o < 18446744073709551615)) (ap (λ (s : LiveList g.row.V.Denot). s.live) c.self.view_is) c.requires.live

pub add_hold-requires-clause-count : goal.add_hold-requires-clause-count
add_hold-requires-clause-count g c =
    let same = named_at _ c.args.name.id c.index_mut.result.now c.index_mut.ensures.value c.key_of-key.ensures in
    let found = found_at c.self.invariant.0 _ c.args.name.id c.key_of-key.result c.index_mut.result.now (ap (λ (s : LiveList g.row.V.Denot). s.live) c.self.view_is) c.index_mut.ensures.value same in
    (rw found at c.requires.live).0

pub add_hold-requires-clause-total : goal.add_hold-requires-clause-total
add_hold-requires-clause-total g c =
    let same = named_at _ c.args.name.id c.index_mut.result.now c.index_mut.ensures.value c.key_of-key.ensures in
    let found = found_at c.self.invariant.0 _ c.args.name.id c.key_of-key.result c.index_mut.result.now (ap (λ (s : LiveList g.row.V.Denot). s.live) c.self.view_is) c.index_mut.ensures.value same in
    (rw found at c.requires.live).1

pub keep_key-requires : goal.keep_key-requires
keep_key-requires g c =
    let o = c.index_mut.result.now in
    let there = c.index_mut.ensures.value in
    let within : c.args.place < c.self.inside.places = let e = ap (λ (s : LiveList g.row.V.Denot). s.places) c.self.view_is in omega (arith, e, c.requires.place) in
    record {
      place = place_within c.self.invariant.1 c.key_of-key.result o there c.args.place within;
      key = key_within c.self.invariant.1 c.key_of-key.result o there c.args.place within;
    }

pub invariant_of-self : goal.invariant_of-self
invariant_of-self g c =
    let o = c.index_mut.result.now in
    let wide = (c.self.invariant.0.standing c.key_of-key.result o c.index_mut.ensures.value).width in
    let e = ap (λ (s : LiveList g.row.V.Denot). s.places) c.self.view_is in
    let summed = sum-set o.holds c.args.place (holds_of o c.args.place + 1) (omega (arith, wide, e, c.requires.place)) in
    let within : c.args.place < c.self.inside.places = let e = ap (λ (s : LiveList g.row.V.Denot). s.places) c.self.view_is in omega (arith, e, c.requires.place) in
    let same = named_at _ c.args.name.id o c.index_mut.ensures.value c.key_of-key.ensures in
    let found = found_at c.self.invariant.0 _ c.args.name.id c.key_of-key.result o (ap (λ (s : LiveList g.row.V.Denot). s.live) c.self.view_is) c.index_mut.ensures.value same in
    let small = (rw found at c.requires.live).0 in (
      sound_write c.self.invariant.0 c.key_of-key.result o c.add_hold.new.self c.index_mut.ensures.value
          (ap (λ (p : Live g.row.V.Denot). p.id) c.add_hold.ensures)
          (ap (λ (p : Live g.row.V.Denot). length p.holds) c.add_hold.ensures ∙ length-set o.holds c.args.place (holds_of o c.args.place + 1))
          (rw c.add_hold.ensures (omega (arith, summed))),
      rw c.keep_key.ensures
          (counted_hold c.self.invariant.1 c.key_of-key.result o c.index_mut.ensures.value c.args.place within c.add_hold.new.self (holds_of o c.args.place + 1) true c.add_hold.ensures
          (omega (arith, small)) (holds_yes o c.add_hold.new.self c.args.place (holds_of o c.args.place) c.add_hold.ensures (omega (arith, wide, within)))),
    )

pub returns : goal.returns
returns g c =
    let same = named_at _ c.args.name.id c.index_mut.result.now c.index_mut.ensures.value c.key_of-key.ensures in
    let f = λ (o : Live g.row.V.Denot). with_holds c.args.place (holds_of o c.args.place + 1) o in
    live_is _ _ _ (change c.args.name.id f) c.self.view_is
    (write_listed c.self.invariant.0 _ c.args.name.id c.key_of-key.result c.index_mut.result.now c.add_hold.new.self f refl c.index_mut.ensures.value same c.add_hold.ensures refl)
