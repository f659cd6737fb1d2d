use Rattle.std.proofs.Common.{ap}
use Rattle.tm_objects.specs.Live.{LiveList}
use Rattle.tm_objects.proofs.At.{slot_there}
use Rattle.tm_objects.proofs.live.LiveObjects.placed.Goals as goal

pub key_of-key-requires : goal.key_of-key-requires
key_of-key-requires g c = slot_there c.self.invariant.0 _ _ (ap (λ (s : LiveList g.row.V.Denot). s.live) c.self.view_is) c.requires
