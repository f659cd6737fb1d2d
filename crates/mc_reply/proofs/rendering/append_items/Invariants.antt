use Rattle.std.proofs.Common.{◌≡◌, ◌++◌, take}
use Rattle.std.specs.List.{flat_map}
use Rattle.mc_model.specs.Rendering.{item_bytes}
use Rattle.mc_reply.proofs.rendering.append_items.Given as goal

abbrev pub invariant-loop-at : goal.invariant-loop-at
invariant-loop-at l = l.out ≡ l.initial.out ++ flat_map (item_bytes l.with_cas) (take l.at l.items)
