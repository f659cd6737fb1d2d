use Rattle.std.proofs.Common.{◌≡◌, ◌+◌, ◌^◌, ◌-◌, length, min, take}
use Rattle.std.specs.List.{flat_map}
use Rattle.mc_model.specs.Rendering.{item_bytes}
use Rattle.mc_reply.proofs.size.items_size.Given as goal

abbrev pub invariant-loop-at : goal.invariant-loop-at
invariant-loop-at l = l.size ≡ min (length (flat_map (item_bytes l.with_cas) (take l.at l.items)) + 5) (2 ^ 64 - 1)
