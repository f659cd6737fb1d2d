-- What a call does to a list that a device tells, such as the bytes still to come. Each holds where the list is told before,
-- and then it is told afterwards.
use Rattle.std.specs.Prelude.{◌≡◌, ℕ, ◌<◌, List, [], ◌++◌, length, take, drop, Option, Some}

-- the list stays
abbrev pub Stays : Option (List ℕ) → Option (List ℕ) → Type 0
Stays old new = (items : List ℕ) → old ≡ Some items → new ≡ Some items

-- the list grows at its end
abbrev pub Grows : Option (List ℕ) → Option (List ℕ) → List ℕ → Type 0
Grows old new more = (items : List ℕ) → old ≡ Some items → new ≡ Some (items ++ more)

-- the list grows by a front of this, and not by all of it
abbrev pub GrowsByFront : Option (List ℕ) → Option (List ℕ) → List ℕ → Type 0
GrowsByFront old new more =
    (items : List ℕ) → old ≡ Some items → (n : ℕ) × (n < length more) × (new ≡ Some (items ++ take n more))

-- the buffer begins with the list's first n items, which the list loses
abbrev pub Gives : Option (List ℕ) → Option (List ℕ) → ℕ → List ℕ → Type 0
Gives old new n buffer =
    (items : List ℕ) → old ≡ Some items → (items ≡ take n buffer ++ drop n items) × (new ≡ Some (drop n items))

-- the list is empty
abbrev pub IsEmptyWhereTold : Option (List ℕ) → Type 0
IsEmptyWhereTold told = (items : List ℕ) → told ≡ Some items → items ≡ []
