-- Items by their keys, in the order of their last use.
use Rattle.std.specs.Prelude.{ℕ, zero, suc, Bool, not, nat_eq, List, [], ◌∷◌, length, if◌then◌else◌, Option}
use Rattle.std.specs.List.{filter}
use Rattle.std.specs.Map.{lookup}
use Rattle.std.specs.Cmp.Lexicographic.{pointwise}
use Rattle.mc_item.specs.Classes.{class_of}
use Rattle.mc_item.specs.Expiry.{is_expired}
use Rattle.mc_model.specs.declared.item.Item.{Item}

-- each key once with its item, the most recently used first
abbrev pub Items : Type 0
Items = List (List ℕ × Item)

abbrev pub no_items : Items
no_items = []

-- whether two keys are the same
abbrev pub same_key : List ℕ → List ℕ → Bool
same_key = pointwise nat_eq

-- the item that a key has
abbrev pub item_at : Items → List ℕ → Option Item
item_at items key = lookup (same_key key) items

-- how many keys have an item
abbrev pub count_of : Items → ℕ
count_of items = length items

-- the items of the other keys
unfoldable pub without : Items → List ℕ → Items
without items key = filter (λ e. not (same_key key e.0)) items

-- a key has this item, which goes first
unfoldable pub first : Items → List ℕ → Item → Items
first items key item = (key, item) ∷ without items key

-- the items that are not expired at a moment, in their order
unfoldable pub live : ℕ → Items → Items
live moment items = filter (λ e. not (is_expired e.1.due moment)) items

-- the items of the classes that pass a test, in their order
unfoldable pub of_classes : (ℕ → Bool) → Items → Items
of_classes test items = filter (λ e. test (class_of e.0)) items

-- of the classes that pass a test only so many items stay, the first ones; the others of these classes go
unfoldable pub first_of : (ℕ → Bool) → ℕ → Items → Items
first_of test bound [] = []
first_of test zero (e ∷ items) = if test (class_of e.0) then first_of test zero items else e ∷ first_of test zero items
first_of test (suc bound) (e ∷ items) = e ∷ (if test (class_of e.0) then first_of test bound items else first_of test (suc bound) items)
