use Rattle.std.proofs.Common.{◌-◌, ◌≤◌, length, refl, ap, ◌∙◌, length-set, ◌<◌, arith}
use Rattle.slab.proofs.SlabLemmas.{Updates-with_value}
use Rattle.tm_objects.specs.Live.{Live, LiveList, holds_of, with_holds, change, kept}
use Rattle.tm_objects.specs.Counted.{has_hold}
use Rattle.tm_objects.specs.Left.{left_of}
use Rattle.tm_objects.proofs.Sound.{sound_settle}
use Rattle.tm_objects.proofs.At.{named_at, live_is, slot_has, found_at, settled_listed}
use Rattle.tm_objects.proofs.Counted.{count_small, counted_settle, key_within, place_within}
use Rattle.tm_objects.proofs.live.LiveObjects.release.Goals as goal

pub key_of-key-requires : goal.key_of-key-requires
key_of-key-requires g c = slot_has c.self.invariant.0 _ _ (λ o. 1 ≤ holds_of o c.args.place) (ap (λ (s : LiveList g.row.V.Denot). s.live) c.self.view_is) c.requires.live

pub take_hold-requires-clause-count : goal.take_hold-requires-clause-count
take_hold-requires-clause-count g c =
    let there = c.index_mut.ensures.value in
    let o = c.index_mut.result.now in
    let same = named_at _ c.args.name.id o there c.key_of-key.ensures in
    let found = found_at c.self.invariant.0 _ c.args.name.id c.key_of-key.result o (ap (λ (s : LiveList g.row.V.Denot). s.live) c.self.view_is) there same in
    rw found at c.requires.live

pub note_hold-requires : goal.note_hold-requires
note_hold-requires g c =
    let o = c.index_mut.result.now in
    let there = c.index_mut.ensures.value in
    let within : c.args.place < c.self.inside.places = let e = ap (λ (s : LiveList g.row.V.Denot). s.places) c.self.view_is in omega (arith, e, c.requires.place) in
    let at = (Updates-with_value c.self.inside.slots c.key_of-key.result c.take_hold.new.self (rw there refl)).changed in
    let wide = (c.self.invariant.0.standing c.key_of-key.result o there).width in
    record {
      place = place_within c.self.invariant.1 c.key_of-key.result o there c.args.place within;
      key = key_within c.self.invariant.1 c.key_of-key.result o there c.args.place within;
      there = rw (at, c.take_hold.ensures) (omega (arith, length-set o.holds c.args.place (holds_of o c.args.place - 1), wide, within));
    }

pub invariant_of-self : goal.invariant_of-self
invariant_of-self g c =
    let there = c.index_mut.ensures.value in
    let o = c.index_mut.result.now in
    let same = named_at _ c.args.name.id o there c.key_of-key.ensures in
    let found = found_at c.self.invariant.0 _ c.args.name.id c.key_of-key.result o (ap (λ (s : LiveList g.row.V.Denot). s.live) c.self.view_is) there same in
    let p = c.take_hold.new.self in
    let at = (Updates-with_value c.self.inside.slots c.key_of-key.result p (rw there refl)).changed in
    let wide = (c.self.invariant.0.standing c.key_of-key.result o there).width in
    let within : c.args.place < c.self.inside.places = let e = ap (λ (s : LiveList g.row.V.Denot). s.places) c.self.view_is in omega (arith, e, c.requires.place) in
    let settles = rw at at c.settle.ensures.settles in (
      rw c.settle.ensures.capacity (sound_settle c.self.inside.slots c.settle.new.slots _ _ _ _ _ _ c.self.invariant.0 c.key_of-key.result o p there
          (ap (λ (q : Live g.row.V.Denot). q.id) c.take_hold.ensures)
          (ap (λ (q : Live g.row.V.Denot). length q.holds) c.take_hold.ensures ∙ (length-set o.holds c.args.place (holds_of o c.args.place - 1) ∙ wide))
          settles),
      rw c.note_hold.ensures
          (counted_settle c.self.invariant.1 c.key_of-key.result o there c.args.place within p (holds_of o c.args.place - 1) _ c.take_hold.ensures (omega (arith, count_small c.self.invariant.1 c.key_of-key.result o there c.args.place within)) (ap (λ x. has_hold x c.args.place) at) settles),
    )

pub returns-clause-left : goal.returns-clause-left
returns-clause-left g c =
    let there = c.index_mut.ensures.value in
    let o = c.index_mut.result.now in
    let same = named_at _ c.args.name.id o there c.key_of-key.ensures in
    let found = found_at c.self.invariant.0 _ c.args.name.id c.key_of-key.result o (ap (λ (s : LiveList g.row.V.Denot). s.live) c.self.view_is) there same in
    let p = c.take_hold.new.self in
    let at = (Updates-with_value c.self.inside.slots c.key_of-key.result p (rw there refl)).changed in
    rw found (rw at at c.settle.ensures.left ∙ ap (λ (q : Live g.row.V.Denot). left_of q) c.take_hold.ensures)

pub returns-clause-taken : goal.returns-clause-taken
returns-clause-taken g c =
    let there = c.index_mut.ensures.value in
    let o = c.index_mut.result.now in
    let same = named_at _ c.args.name.id o there c.key_of-key.ensures in
    let found = found_at c.self.invariant.0 _ c.args.name.id c.key_of-key.result o (ap (λ (s : LiveList g.row.V.Denot). s.live) c.self.view_is) there same in
    let p = c.take_hold.new.self in
    let f = λ (q : Live g.row.V.Denot). with_holds c.args.place (holds_of q c.args.place - 1) q in
    let at = (Updates-with_value c.self.inside.slots c.key_of-key.result p (rw there refl)).changed in
    live_is _ _ _ (λ l. kept (change c.args.name.id f l)) c.self.view_is
    (settled_listed c.self.invariant.0 c.settle.new.slots _ _ c.args.name.id c.key_of-key.result o p f refl there same c.take_hold.ensures refl (rw at at c.settle.ensures.settles))
