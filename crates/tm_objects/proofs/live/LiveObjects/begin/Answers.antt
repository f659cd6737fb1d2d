use Rattle.std.proofs.Common.{◌+◌, ◌<◌, length, refl, ap, arith}
use Rattle.tm_objects.specs.Live.{Live, LiveList, total, with_launches, change}
use Rattle.tm_objects.proofs.At.{named_at, live_is, slot_has, found_at, sound_write, write_listed}
use Rattle.tm_objects.proofs.Counted.{counted_write}
use Rattle.tm_objects.proofs.live.LiveObjects.begin.Goals as goal

pub key_of-key-requires : goal.key_of-key-requires
key_of-key-requires g c = slot_has c.self.invariant.0 _ _ (λ o. total o < 18446744073709551615) (ap (λ (s : LiveList g.row.V.Denot). s.live) c.self.view_is) c.requires

pub begin-requires : goal.begin-requires
begin-requires g c =
    let same = named_at _ c.args.name.id c.index_mut.result.now c.index_mut.ensures.value c.key_of-key.ensures in
    let found = found_at c.self.invariant.0 _ c.args.name.id c.key_of-key.result c.index_mut.result.now (ap (λ (s : LiveList g.row.V.Denot). s.live) c.self.view_is) c.index_mut.ensures.value same in
    rw found at c.requires

pub invariant_of-self : goal.invariant_of-self
invariant_of-self g c =
    let there = c.index_mut.ensures.value in
    let o = c.index_mut.result.now in (
      sound_write c.self.invariant.0 c.key_of-key.result o c.begin.new.self there
          (ap (λ (o : Live g.row.V.Denot). o.id) c.begin.ensures)
          (ap (λ (o : Live g.row.V.Denot). length o.holds) c.begin.ensures)
          (rw c.begin.ensures (omega arith)),
      counted_write c.self.invariant.1 c.key_of-key.result o c.begin.new.self there (ap (λ (o : Live g.row.V.Denot). o.holds) c.begin.ensures),
    )

pub returns : goal.returns
returns g c =
    let same = named_at _ c.args.name.id c.index_mut.result.now c.index_mut.ensures.value c.key_of-key.ensures in
    let f = λ (o : Live g.row.V.Denot). with_launches (o.launches + 1) o in
    live_is _ _ _ (change c.args.name.id f) c.self.view_is
    (write_listed c.self.invariant.0 _ c.args.name.id c.key_of-key.result c.index_mut.result.now c.begin.new.self f refl c.index_mut.ensures.value same c.begin.ensures refl)
