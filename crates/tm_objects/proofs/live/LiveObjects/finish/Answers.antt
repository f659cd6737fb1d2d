use Rattle.std.proofs.Common.{◌-◌, ◌≤◌, length, refl, ap, ◌∙◌}
use Rattle.slab.proofs.SlabLemmas.{Updates-with_value}
use Rattle.tm_objects.specs.Live.{Live, LiveList, with_launches, change, kept}
use Rattle.tm_objects.specs.Left.{left_of}
use Rattle.tm_objects.proofs.Sound.{sound_settle}
use Rattle.tm_objects.proofs.At.{named_at, live_is, slot_has, found_at, settled_listed}
use Rattle.tm_objects.proofs.Counted.{counted_settle_same}
use Rattle.tm_objects.proofs.live.LiveObjects.finish.Goals as goal

pub key_of-key-requires : goal.key_of-key-requires
key_of-key-requires g c = slot_has c.self.invariant.0 _ _ (λ o. 1 ≤ o.launches) (ap (λ (s : LiveList g.row.V.Denot). s.live) c.self.view_is) c.requires

pub finish-requires : goal.finish-requires
finish-requires g c =
    let there = c.index_mut.ensures.value in
    let o = c.index_mut.result.now in
    let same = named_at _ c.args.name.id o there c.key_of-key.ensures in
    let found = found_at c.self.invariant.0 _ c.args.name.id c.key_of-key.result o (ap (λ (s : LiveList g.row.V.Denot). s.live) c.self.view_is) there same in
    rw found at c.requires

pub invariant_of-self : goal.invariant_of-self
invariant_of-self g c =
    let there = c.index_mut.ensures.value in
    let o = c.index_mut.result.now in
    let same = named_at _ c.args.name.id o there c.key_of-key.ensures in
    let found = found_at c.self.invariant.0 _ c.args.name.id c.key_of-key.result o (ap (λ (s : LiveList g.row.V.Denot). s.live) c.self.view_is) there same in
    let p = c.finish.new.self in
    let at = (Updates-with_value c.self.inside.slots c.key_of-key.result p (rw there refl)).changed in
    let wide = (c.self.invariant.0.standing c.key_of-key.result o there).width in
    let settles = rw at at c.settle.ensures.settles in (
      rw c.settle.ensures.capacity (sound_settle c.self.inside.slots c.settle.new.slots _ _ _ _ _ _ c.self.invariant.0 c.key_of-key.result o p there
          (ap (λ (q : Live g.row.V.Denot). q.id) c.finish.ensures)
          (ap (λ (q : Live g.row.V.Denot). length q.holds) c.finish.ensures ∙ wide)
          settles),
      counted_settle_same c.self.invariant.1 c.key_of-key.result o p there (ap (λ (q : Live g.row.V.Denot). q.holds) c.finish.ensures) settles,
    )

pub returns-clause-left : goal.returns-clause-left
returns-clause-left g c =
    let there = c.index_mut.ensures.value in
    let o = c.index_mut.result.now in
    let same = named_at _ c.args.name.id o there c.key_of-key.ensures in
    let found = found_at c.self.invariant.0 _ c.args.name.id c.key_of-key.result o (ap (λ (s : LiveList g.row.V.Denot). s.live) c.self.view_is) there same in
    let p = c.finish.new.self in
    let at = (Updates-with_value c.self.inside.slots c.key_of-key.result p (rw there refl)).changed in
    rw found (rw at at c.settle.ensures.left ∙ ap (λ (q : Live g.row.V.Denot). left_of q) c.finish.ensures)

pub returns-clause-taken : goal.returns-clause-taken
returns-clause-taken g c =
    let there = c.index_mut.ensures.value in
    let o = c.index_mut.result.now in
    let same = named_at _ c.args.name.id o there c.key_of-key.ensures in
    let found = found_at c.self.invariant.0 _ c.args.name.id c.key_of-key.result o (ap (λ (s : LiveList g.row.V.Denot). s.live) c.self.view_is) there same in
    let p = c.finish.new.self in
    let f = λ (q : Live g.row.V.Denot). with_launches (q.launches - 1) q in
    let at = (Updates-with_value c.self.inside.slots c.key_of-key.result p (rw there refl)).changed in
    live_is _ _ _ (λ l. kept (change c.args.name.id f l)) c.self.view_is
    (settled_listed c.self.invariant.0 c.settle.new.slots _ _ c.args.name.id c.key_of-key.result o p f refl there same c.finish.ensures refl (rw at at c.settle.ensures.settles))
