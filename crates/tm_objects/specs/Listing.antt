-- Live objects, found in slots by their ids.
use Rattle.std.specs.Prelude.{◌≡◌, ℕ, zero, suc, ◌+◌, ◌<◌, ◌≤◌, ◌==◌, cond, List, [], ◌∷◌, ◌++◌, length, replicate, slice_index_or, Option, Some, None, option_to_list, All}
use Rattle.slab.specs.Slab.{Slab, slab_len, get, Updates}
use Rattle.tm_objects.specs.Live.{Live, total, with_holds, is_held}

module _ {V : Type 0} where
  -- the object of an id
  unfoldable pub seek : List (Option (Live V)) → ℕ → Option (Live V)
  seek [] i = None
  seek (None ∷ rest) i = seek rest i
  seek (Some o ∷ rest) i = cond (o.id == i) (Some o) (seek rest i)

  -- the objects of the ids from 1 to n, in the order of their ids
  unfoldable pub listed : (ℕ → Option (Live V)) → ℕ → List (Live V)
  listed at zero = []
  listed at (suc n) = listed at n ++ option_to_list (at (suc n))

  -- no two slots have objects of one id
  abbrev pub AreApart : List (Option (Live V)) → Type 0
  AreApart slots =
      (j k : ℕ) (o p : Live V) → slice_index_or slots j None ≡ Some o → slice_index_or slots k None ≡ Some p → o.id ≡ p.id → j ≡ k

  -- an object has one of the ids that were given out, a count for each place, and a hold or a launch
  pub record IsStanding (given places : ℕ) (o : Live V) : Type 0 where
    pub positive : 0 < o.id
    pub upto : o.id ≤ given
    pub width : length o.holds ≡ places
    pub held : 0 < total o

  -- what holds of the slots of live objects, with the rows of counts that are spare and the room for such rows
  pub record IsSound (slab : Slab (Live V)) (rows : List (List ℕ)) (row_room given most places : ℕ) : Type 0 where
    pub standing : (k : ℕ) (o : Live V) → get slab k ≡ Some o → IsStanding given places o
    pub apart : AreApart slab.slots
    -- the spare rows count no holds, and there is one for each object that may yet come
    pub blank : All (λ row. row ≡ replicate places 0) rows
    pub count : length rows + slab_len slab ≡ most
    pub slots : most ≤ slab.capacity
    pub room : most ≤ row_room
    pub whole : length (listed (seek slab.slots) given) ≡ slab_len slab

  -- an object, if there is a hold on it or a launch
  abbrev pub if_held : Live V → Option (Live V)
  if_held o = cond (is_held o) (Some o) None

  -- what is left of a slot when a place has gone
  abbrev pub if_held_beside : ℕ → Option (Live V) → Option (Live V)
  if_held_beside c None = None
  if_held_beside c (Some o) = if_held (with_holds c 0 o)

  -- the object of a key goes where there is no hold on it, and its row of counts is then spare
  pub record Settles (old new : Slab (Live V)) (rows more : List (List ℕ)) (key : ℕ) (o : Live V) : Type 0 where
    pub updates : Updates old new key (if_held o)
    pub len : slab_len new + cond (is_held o) 0 1 ≡ slab_len old
    pub spare : more ≡ rows ++ cond (is_held o) [] (o.holds ∷ [])
    pub capacity : new.capacity ≡ old.capacity
