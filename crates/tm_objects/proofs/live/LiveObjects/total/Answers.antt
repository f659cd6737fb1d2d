use Rattle.std.proofs.Common.{ap}
use Rattle.tm_objects.specs.Live.{LiveList}
use Rattle.tm_objects.proofs.At.{named_at, slot_there, found_at}
use Rattle.tm_objects.proofs.live.LiveObjects.total.Goals as goal

pub key_of-key-requires : goal.key_of-key-requires
key_of-key-requires g c = slot_there c.self.invariant.0 _ _ (ap (λ (s : LiveList g.row.V.Denot). s.live) c.self.view_is) c.requires

pub returns : goal.returns
returns g c =
    let same = named_at _ c.args.name.id c.index.result.now c.index.ensures c.key_of-key.ensures in
    let found = found_at c.self.invariant.0 _ c.args.name.id c.key_of-key.result c.index.result.now (ap (λ (s : LiveList g.row.V.Denot). s.live) c.self.view_is) c.index.ensures same in
    rw found c.total.ensures
