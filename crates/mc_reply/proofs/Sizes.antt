-- How many bytes an item has.
use Rattle.std.proofs.Common.{◌≡◌, ◌+◌, ◌++◌, Bool, length, arith, length-append}
use Rattle.std.specs.Fmt.{decimal}
use Rattle.mc_model.specs.declared.shown.ShownItem.{ShownItem}
use Rattle.mc_model.specs.Rendering.{item_bytes, cas_bytes}
use Rattle.mc_reply.proofs.Items.{flat_map-take_more}

-- an item's bytes are those of its parts, and twelve more
pub length-item_bytes : (with_cas : Bool) (item : ShownItem) → length (item_bytes with_cas item) ≡ 12 + length (decimal item.flags) + length (decimal (length item.value)) + length (cas_bytes with_cas item.cas) + length item.key + length item.value
unfolding item_bytes
length-item_bytes with_cas item = simp length-append (omega arith)

pub ruleset of_items = (length-item_bytes, length-append, flat_map-take_more)
