-- Live objects whose ids rise, and where an object stands among them.
use Rattle.std.specs.Prelude.{◌≡◌, ℕ, ◌+◌, ◌<◌, ◌≤◌, List, [], ◌∷◌, ◌++◌, length, slice_index_or, slice_set, MatchOption, IsSomeAnd}
use Rattle.std.specs.List.{AllByRecursion, remove}
use Rattle.std.specs.declared.option.Option.{Option}
use Rattle.std.specs.declared.option.Option.TheVariants.{None, Some}
use Rattle.tm_model.specs.State.{Work, Object, holds_of, change, without, object_of}

module _ {V T : Type 0} where
  -- an object with one more unfinished launch, the last
  abbrev pub with_work : Work T → Object V T → Object V T
  with_work w o = record o { works = o.works ++ w ∷ [] }

  -- ids rise, from `low` on and below `next`, and each launch is of one of n places
  abbrev pub Rises : ℕ → ℕ → ℕ → List (Object V T) → Type 0
  Rises n low next [] = low ≤ next
  Rises n low next (o ∷ live) = (low ≤ o.id) × AllByRecursion (λ w. w.place < n) o.works × Rises n (o.id + 1) next live

  -- ids rise, and launches are of places
  pub record AreRising (live : List (Object V T)) : Type 0 where
    pub places : ℕ
    pub next : ℕ
    pub rises : Rises places 1 next live

  -- the object of an id stands at a position, and no other has that id
  pub record StandsAt (live : List (Object V T)) (id i : ℕ) (o : Object V T) : Type 0 where
    pub in_range : i < length live
    pub here : (d : Object V T) → slice_index_or live i d ≡ o
    pub is_named : o.id ≡ id
    pub found : object_of live id ≡ Some o
    pub alone : (f : Object V T → Object V T) → change id f live ≡ slice_set live i (f o)
    pub others : without id live ≡ remove live i

  -- where the object of an id stands, or that it is not live
  abbrev pub IsPosition : List (Object V T) → ℕ → Option ℕ → Type 0
  IsPosition live id r = MatchOption r (object_of live id ≡ None) (λ i. (o : Object V T) × StandsAt live id i o)

  -- the object of an id stands at a position, and place c holds it
  abbrev pub Holds : List (Object V T) → ℕ → ℕ → ℕ → Type 0
  Holds live c id i = (o : Object V T) × StandsAt live id i o × (1 ≤ holds_of o c)

  -- where the object of an id stands, or that place c does not hold it
  abbrev pub IsHeldPosition : List (Object V T) → ℕ → ℕ → Option ℕ → Type 0
  IsHeldPosition live c id r = MatchOption r (¬ IsSomeAnd (object_of live id) (λ o. 1 ≤ holds_of o c)) (Holds live c id)
