-- What a contract sees of live objects.
use Rattle.std.specs.Prelude.{ℕ, ◌+◌, ◌==◌, Bool, not, cond, List, map, filter, find, sum, replicate, slice_index_or, slice_set, Option, Some, None, IsSomeAnd, refl}
use Rattle.std.specs.Coded.{Coded, code_by, coded×, coded_ℕ, coded_list}

-- a live object: its id, its value, its number of holds for each place, and the number of its unfinished launches
pub record Live (V : Type 0) : Type 0 where
  pub id : ℕ
  pub value : V
  pub holds : List ℕ
  pub launches : ℕ

-- a live object is stored as the tuple of its fields
abbrev pub live_code : {V : Type 0} → Coded V → Coded (Live V)
live_code {V} code =
    code_by
    (ℕ × (V × (List ℕ × ℕ)))
    (coded× coded_ℕ (coded× code (coded× (coded_list coded_ℕ) coded_ℕ)))
    (λ o. (o.id, (o.value, (o.holds, o.launches))))
    (λ p. record { id = p.0; value = p.1.0; holds = p.1.1.0; launches = p.1.1.1 })
    (λ _. refl)

module _ {V : Type 0} where
  -- how many holds a place has on an object
  abbrev pub holds_of : Live V → ℕ → ℕ
  holds_of o c = slice_index_or o.holds c 0

  -- all holds on an object, and its unfinished launches
  abbrev pub total : Live V → ℕ
  total o = sum o.holds + o.launches

  -- an object on which a place has n holds
  abbrev pub with_holds : ℕ → ℕ → Live V → Live V
  with_holds c n o = record o { holds = slice_set o.holds c n }

  -- an object with n unfinished launches
  abbrev pub with_launches : ℕ → Live V → Live V
  with_launches n o = record o { launches = n }

  -- an object with another value
  abbrev pub with_value : V → Live V → Live V
  with_value v o = record o { value = v }

  -- a new object that one place holds once
  abbrev pub first_held : ℕ → V → ℕ → ℕ → Live V
  first_held id v places c = record { id = id; value = v; holds = slice_set (replicate places 0) c 1; launches = 0 }

  -- the object of an id, if it is live
  abbrev pub object_of : List (Live V) → ℕ → Option (Live V)
  object_of live id = find (λ o. o.id == id) live

  -- the objects with the one of an id changed
  abbrev pub change : ℕ → (Live V → Live V) → List (Live V) → List (Live V)
  change id f live = map (λ o. cond (o.id == id) (f o) o) live

  -- whether there is a hold on an object, or a launch
  abbrev pub is_held : Live V → Bool
  is_held o = not (total o == 0)

  -- the objects on which there is a hold or a launch
  abbrev pub kept : List (Live V) → List (Live V)
  kept live = filter is_held live

  -- the objects of other ids
  abbrev pub without : ℕ → List (Live V) → List (Live V)
  without id live = filter (λ o. not (o.id == id)) live

  -- an id is live, and P holds of its object
  abbrev pub HasLive : List (Live V) → ℕ → (Live V → Type 0) → Type 0
  HasLive live id P = IsSomeAnd (object_of live id) P

  -- the holds of a place on an object, or 0 where it is not live
  abbrev pub count_in : Option (Live V) → ℕ → ℕ
  count_in None c = 0
  count_in (Some o) c = holds_of o c

  -- the total of an object, or 0 where it is not live
  abbrev pub total_in : Option (Live V) → ℕ
  total_in None = 0
  total_in (Some o) = total o

-- all live objects: how many may be live, how many places there are, the last id that was given out, and the objects by rising id
pub record LiveList (V : Type 0) : Type 0 where
  pub most : ℕ
  pub places : ℕ
  pub given : ℕ
  pub live : List (Live V)

-- a list of live objects is stored as the tuple of its fields
abbrev pub live_list_code : {V : Type 0} → Coded V → Coded (LiveList V)
live_list_code {V} code =
    code_by
    (ℕ × (ℕ × (ℕ × List (Live V))))
    (coded× coded_ℕ (coded× coded_ℕ (coded× coded_ℕ (coded_list (live_code code)))))
    (λ s. (s.most, (s.places, (s.given, s.live))))
    (λ p. record { most = p.0; places = p.1.0; given = p.1.1.0; live = p.1.1.1 })
    (λ _. refl)
