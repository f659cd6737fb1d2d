-- The first item of a key that is not expired.
use Rattle.std.specs.Prelude.{ℕ, Bool, not, ◌&&◌, if◌then◌else◌, List, [], ◌∷◌, Option, Some, None}
use Rattle.mc_item.specs.Expiry.{is_expired}
use Rattle.mc_model.specs.declared.item.Item.{Item}
use Rattle.mc_model.specs.Items.{Items, same_key}

-- whether an entry is that of a key, and is not expired
abbrev pub is_live_at : ℕ → List ℕ → List ℕ × Item → Bool
is_live_at now key e = same_key key e.0 && not (is_expired e.1.due now)

abbrev pub live_item : ℕ → List ℕ → Items → Option Item
live_item now key [] = None
live_item now key (e ∷ items) = if is_live_at now key e then Some e.1 else live_item now key items
