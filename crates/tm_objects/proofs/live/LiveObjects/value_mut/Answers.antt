use Rattle.std.proofs.Common.{refl, ap}
use Rattle.tm_objects.specs.Live.{LiveList, with_value, change}
use Rattle.tm_objects.proofs.At.{named_at, live_is, slot_there, found_at, sound_write, write_listed}
use Rattle.tm_objects.proofs.Counted.{counted_write}
use Rattle.tm_objects.proofs.live.LiveObjects.value_mut.Goals as goal

pub key_of-key-requires : goal.key_of-key-requires
key_of-key-requires g c = slot_there c.self.invariant.0 _ _ (ap (λ (s : LiveList g.row.V.Denot). s.live) c.self.view_is) c.requires

pub invariant_of-self-lent : goal.invariant_of-self-lent
invariant_of-self-lent g c w =
    let o = c.index_mut.result.now in (
      sound_write c.self.invariant.0 c.key_of-key.result o (with_value w o) c.index_mut.ensures.value refl refl
          (c.self.invariant.0.standing c.key_of-key.result o c.index_mut.ensures.value).held,
      counted_write c.self.invariant.1 c.key_of-key.result o (with_value w o) c.index_mut.ensures.value refl,
    )

pub returns : goal.returns
returns g c =
    let there = c.index_mut.ensures.value in
    let o = c.index_mut.result.now in
    let same = named_at _ c.args.name.id o there c.key_of-key.ensures in
    let found = found_at c.self.invariant.0 _ c.args.name.id c.key_of-key.result o (ap (λ (s : LiveList g.row.V.Denot). s.live) c.self.view_is) there same in (
      (
        refl,
        λ w. live_is _ _ _ (change c.args.name.id (λ o. with_value w o)) c.self.view_is
            (write_listed c.self.invariant.0 _ c.args.name.id c.key_of-key.result o (with_value w o) (λ o. with_value w o) refl there same refl refl),
      ),
      record { writes_back = tt; value = rw found c.value_mut.ensures.value },
    )
