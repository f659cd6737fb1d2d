use Rattle.std.proofs.Common.{◌≡◌, ℕ, ◌≤◌, List, set, Vec, Global, refl, ap, ◌∙◌, arith, ◌<◌}
use Rattle.std.specs.Prelude.{map}
use Rattle.std.proofs.lemmas.List.{map-append}
use Rattle.tm_objects.specs.Live.{LiveList, holds_of, total, without}
use Rattle.tm_objects.specs.Listing.{seek, listed}
use Rattle.tm_objects.proofs.Sound.{less_listed, sound_less}
use Rattle.tm_objects.proofs.At.{one_hold, named_at, live_is, slot_has, found_at}
use Rattle.tm_objects.proofs.Counted.{counted_less, key_within, place_within}
use Rattle.tm_objects.proofs.live.LiveObjects.take_out.Goals as goal

pub key_of-key-requires : goal.key_of-key-requires
key_of-key-requires g c = slot_has c.self.invariant.0 _ _ (λ o. (total o ≡ 1) × (1 ≤ holds_of o c.args.place)) (ap (λ (s : LiveList g.row.V.Denot). s.live) c.self.view_is) c.requires.live

pub forget_key-requires : goal.forget_key-requires
forget_key-requires g c =
    let o = c.remove.result in
    let there = c.remove.ensures.value in
    let within : c.args.place < c.self.inside.places = let e = ap (λ (s : LiveList g.row.V.Denot). s.places) c.self.view_is in omega (arith, e, c.requires.place) in
    record {
      place = place_within c.self.invariant.1 c.key_of-key.result o there c.args.place within;
      key = key_within c.self.invariant.1 c.key_of-key.result o there c.args.place within;
    }

pub invariant_of-self : goal.invariant_of-self
invariant_of-self g c =
    let there = c.remove.ensures.value in
    let o = c.remove.result in
    let same = named_at _ c.args.name.id o there c.key_of-key.ensures in
    let found = found_at c.self.invariant.0 _ c.args.name.id c.key_of-key.result o (ap (λ (s : LiveList g.row.V.Denot). s.live) c.self.view_is) there same in
    let live = rw found at c.requires.live in
    let wide = (c.self.invariant.0.standing c.key_of-key.result o there).width in
    let f = λ (row : Vec ℕ Global). row.items in
    let e = ap (λ (s : LiveList g.row.V.Denot). s.places) c.self.view_is in
    let within : c.args.place < c.self.inside.places = let e = ap (λ (s : LiveList g.row.V.Denot). s.places) c.self.view_is in omega (arith, e, c.requires.place) in (
      rw c.push_reserved.ensures.capacity
          (sound_less c.self.inside.slots c.remove.new.self _ _ _ _ _ _ c.self.invariant.0 c.key_of-key.result o (set o.holds c.args.place 0) there c.remove.ensures.updates c.remove.ensures.len c.remove.ensures.capacity
          (ap (λ (rows : List (Vec ℕ Global)). map f rows) c.push_reserved.ensures.items ∙ (map-append f c.self.inside.spare.items _ ∙ rw c.into_parts-value.ensures.holds refl))
          (one_hold o c.args.place c.self.inside.places live.0 live.1 (omega (arith, wide, e, c.requires.place)) wide)),
      rw c.forget_key.ensures
          (counted_less c.self.invariant.1 c.key_of-key.result o there c.args.place within c.remove.new.self c.remove.ensures.updates c.remove.ensures.capacity live.0 live.1 wide),
    )

pub returns-clause-value : goal.returns-clause-value
returns-clause-value g c =
    let there = c.remove.ensures.value in
    let o = c.remove.result in
    let same = named_at _ c.args.name.id o there c.key_of-key.ensures in
    let found = found_at c.self.invariant.0 _ c.args.name.id c.key_of-key.result o (ap (λ (s : LiveList g.row.V.Denot). s.live) c.self.view_is) there same in
    rw found c.into_parts-value.ensures.value

pub returns-clause-taken : goal.returns-clause-taken
returns-clause-taken g c =
    let there = c.remove.ensures.value in
    let o = c.remove.result in
    let same = named_at _ c.args.name.id o there c.key_of-key.ensures in
    let found = found_at c.self.invariant.0 _ c.args.name.id c.key_of-key.result o (ap (λ (s : LiveList g.row.V.Denot). s.live) c.self.view_is) there same in
    live_is _ _ _ (λ l. without c.args.name.id l) c.self.view_is
    (less_listed c.self.inside.slots c.remove.new.self c.key_of-key.result o c.self.inside.given c.self.invariant.0.apart there c.remove.ensures.updates
    ∙ ap (λ (i : ℕ). without i (listed (seek c.self.inside.slots.slots) c.self.inside.given)) same)
