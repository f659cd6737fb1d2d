-- The items that a class keeps, with the moment that they are of, and how they are kept.
use Rattle.std.specs.Prelude.{◌≡◌, ℕ, ◌-◌, ◌^◌, ◌<◌, ◌≤◌, Bool, true, false, not, ◌&&◌, ◌==◌, if◌then◌else◌, List, [], ◌∷◌, ◌++◌, length, take, Option, Some, None, IfSome, refl}
use Rattle.std.specs.Coded.{Coded, code_by, coded×, coded_ℕ, coded_list}
use Rattle.std.specs.List.{list_any, IsDistinct}
use Rattle.std.specs.Map.{keys_of}
use Rattle.std.specs.BTreeMap.{is_at}
use Rattle.std.specs.declared.cmp.Ordering.{Ordering}
use Rattle.std.specs.Ordering.{nat_cmp, ordering_then}
use Rattle.std.specs.Cmp.Lexicographic.{slice_cmp}
use Rattle.mc_item.specs.declared.limits.TheConstants.{MOST_ITEMS}
use Rattle.mc_item.specs.declared.expiry.Expiry.{Expiry}
use Rattle.mc_item.specs.declared.expiry.Expiry.TheVariants.{Never, At}
use Rattle.mc_item.specs.Expiry.{is_expired}
use Rattle.mc_model.specs.declared.item.Item.{Item}
use Rattle.mc_model.specs.contracts.item.Item as item
use Rattle.mc_model.specs.Items.{Items, same_key, item_at, first, without, live}
use Rattle.mc_model.specs.Rows.{with_value}

pub record Kept : Type 0 where
  pub items : Items
  -- the moment of the last operation: what was expired before it has gone
  pub moment : ℕ
  -- how many items there are at most
  pub bound : ℕ

-- the code by which a proof tells them apart
abbrev pub kept_code : Coded Kept
kept_code = code_by (Items × (ℕ × ℕ))
    (coded× (coded_list (coded× (coded_list coded_ℕ) item.the_row.coded)) (coded× coded_ℕ coded_ℕ))
    (λ k. (k.items, (k.moment, k.bound)))
    (λ p. record { items = p.0; moment = p.1.0; bound = p.1.1 })
    (λ _. refl)

abbrev pub kept_at : Items → ℕ → ℕ → Kept
kept_at items moment bound = record { items = items; moment = moment; bound = bound }

-- what is expired at a moment has gone
abbrev pub after_settle : Kept → ℕ → Kept
after_settle k moment = kept_at (live moment k.items) moment k.bound

-- an item was put at a moment: of more items than the bound the last has gone
abbrev pub after_put : Kept → ℕ → List ℕ → Item → Kept
after_put k moment key item = kept_at (take k.bound (first (live moment k.items) key item)) moment k.bound

-- the item that was there at a moment was put, changed
abbrev pub after_change : (Item → Item) → Kept → ℕ → List ℕ → Option Item → Kept
after_change change k moment key None = after_settle k moment
after_change change k moment key (Some item) = after_put k moment key (change item)

-- the item that was there at a moment was used, and is changed
abbrev pub after_use : (Item → Item) → Kept → ℕ → List ℕ → Option Item → Kept
after_use change k moment key None = after_settle k moment
after_use change k moment key (Some item) = kept_at (first (live moment k.items) key (change item)) moment k.bound

-- an item was taken out at a moment
abbrev pub after_remove : Kept → ℕ → List ℕ → Kept
after_remove k moment key = kept_at (without (live moment k.items) key) moment k.bound

-- ---- changes of one item

abbrev pub same : Item → Item
same item = item

abbrev pub appended : List ℕ → ℕ → Item → Item
appended more cas item = with_value (item.value ++ more) cas item

abbrev pub prepended : List ℕ → ℕ → Item → Item
prepended more cas item = with_value (more ++ item.value) cas item

-- ---- how they are kept

-- the items in the cache, behind one that was put already expired
abbrev pub with_late : Option (List ℕ × Item) → Items → Items
with_late None items = items
with_late (Some late) items = late ∷ items

-- the order of the index: by the moment, and then by the key
abbrev pub due_cmp : ℕ × List ℕ → ℕ × List ℕ → Ordering
due_cmp x y = ordering_then (nat_cmp x.0 y.0) (slice_cmp nat_cmp x.1 y.1)

-- whether the index has this key at this moment
abbrev pub has_entry : List (ℕ × List ℕ) → ℕ → List ℕ → Bool
has_entry index moment key = list_any (is_at (due_cmp (moment, key))) index

-- whether this is the moment of a due
abbrev pub goes_at : Expiry → ℕ → Bool
goes_at Never moment = false
goes_at (At due) moment = due == moment

-- when an item goes, or never where there is none
abbrev pub due_of : Option Item → Expiry
due_of None = Never
due_of (Some item) = item.due

-- the index has an entry for each item that goes at a moment, and no other
abbrev pub IsTold : Items → List (ℕ × List ℕ) → Type 0
IsTold items index = (moment : ℕ) (key : List ℕ) → has_entry index moment key ≡ goes_at (due_of (item_at items key)) moment

-- whether this is the entry of a key with this due
abbrev pub is_entry : Expiry → List ℕ → ℕ → List ℕ → Bool
is_entry Never key moment q = false
is_entry (At due) key moment q = is_at (due_cmp (due, key)) (moment, q)

-- an index with the entry of a key with this due more
abbrev pub GainsEntry : List (ℕ × List ℕ) → List (ℕ × List ℕ) → Expiry → List ℕ → Type 0
GainsEntry old new due key = (moment : ℕ) (q : List ℕ) → has_entry new moment q ≡ (if is_entry due key moment q then true else has_entry old moment q)

-- an index without the entry for when a key's item was to go, unless it goes then still
abbrev pub LosesEntry : List (ℕ × List ℕ) → List (ℕ × List ℕ) → Expiry → Expiry → List ℕ → Type 0
LosesEntry old new was due key = (moment : ℕ) (q : List ℕ) → has_entry new moment q ≡ (if is_entry was key moment q && not (goes_at due moment) then false else has_entry old moment q)

-- an index whose moments have all not come
abbrev pub IsAhead : ℕ → List (ℕ × List ℕ) → Type 0
IsAhead now index = (moment : ℕ) (key : List ℕ) → has_entry index moment key ≡ true → now < moment

-- an entry of this key was taken out, whose moment has come
abbrev pub TakesDue : ℕ → List (ℕ × List ℕ) → List (ℕ × List ℕ) → List ℕ → Type 0
TakesDue now old new key = (due : ℕ) × (due ≤ now) × (has_entry old due key ≡ true)
    × ((moment : ℕ) (q : List ℕ) → has_entry new moment q ≡ (if is_at (due_cmp (due, key)) (moment, q) then false else has_entry old moment q))

-- no key stands twice, and the index tells when each item goes
pub record IsPaired (items : Items) (index : List (ℕ × List ℕ)) : Type 0 where
  pub apart : IsDistinct same_key (keys_of items)
  pub told : IsTold items index

-- the cache, whose own bound is out of reach, and the index are in order at a moment
pub record IsInOrder (items : Items) (cap : ℕ) (index : List (ℕ × List ℕ)) (late : Option (List ℕ × Item)) (moment bound : ℕ) : Type 0 where
  pub paired : IsPaired items index
  -- only the late item is expired
  pub fresh : live moment items ≡ items
  pub late_expired : IfSome late (λ e. is_expired e.1.due moment ≡ true)
  pub few : length (with_late late items) ≤ bound
  pub some : 1 ≤ bound
  pub most : bound ≤ MOST_ITEMS
  pub unbounded : cap ≡ 2 ^ 64 - 1
