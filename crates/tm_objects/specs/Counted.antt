-- Which slots have objects that a place holds.
use Rattle.std.specs.Prelude.{◌≡◌, ℕ, ◌<◌, ◌==◌, Bool, false, not, List, [], length, slice_index_or, slice_set, Option, Some, All}
use Rattle.slab.specs.Slab.{Slab, get}
use Rattle.tm_objects.specs.Live.{Live, count_in}

-- the flags of a place, one for each slot
abbrev pub flags_of : List (List Bool) → ℕ → List Bool
flags_of held c = slice_index_or held c []

-- whether the set of a place has a slot
abbrev pub is_in : List (List Bool) → ℕ → ℕ → Bool
is_in held c key = slice_index_or (flags_of held c) key false

-- the sets with one flag of a place written
abbrev pub with_flag : ℕ → ℕ → Bool → List (List Bool) → List (List Bool)
with_flag c key b held = slice_set held c (slice_set (flags_of held c) key b)

module _ {V : Type 0} where
  -- whether a place has a hold on what a slot has
  abbrev pub has_hold : Option (Live V) → ℕ → Bool
  has_hold slot c = not (count_in slot c == 0)

  -- each place has the set of the slots of the objects that it holds, and counts need 32 bits
  pub record AreCounted (slab : Slab (Live V)) (held : List (List Bool)) (places : ℕ) : Type 0 where
    pub sets : length held ≡ places
    pub sizes : All (λ flags. length flags ≡ slab.capacity) held
    pub members : (c key : ℕ) → is_in held c key ≡ has_hold (get slab key) c
    pub within : (key : ℕ) (o : Live V) → get slab key ≡ Some o → key < slab.capacity
    pub counts : (key : ℕ) (o : Live V) → get slab key ≡ Some o → All (λ n. n < 4294967296) o.holds
