-- What a place holds at first, by the list of the build.
use Rattle.std.specs.Prelude.{ℕ, ◌+◌, cond, List, [], ◌∷◌, ◌++◌, length, map}
use Rattle.tm_batch.specs.declared.config.First.{First}
use Rattle.tm_batch.specs.declared.message.Name.{Name}
use Rattle.tm_model.specs.Opening.{is_named, placed_on}

module _ {V : Type 0} where
  -- the objects of a list that name place c, in its order, each by its trustee's number and its id there, where some stand before the list
  abbrev pub held_from : ℕ → List (First V) → List (First V) → List (ℕ × ℕ)
  held_from c before [] = []
  held_from c before (f ∷ fs) =
      cond (is_named c f) ((f.trustee, length (placed_on f.trustee before) + 1) ∷ held_from c (before ++ f ∷ []) fs) (held_from c (before ++ f ∷ []) fs)

  -- those that a list of the build has for place c
  abbrev pub held_of : ℕ → List (First V) → List (ℕ × ℕ)
  held_of c first = held_from c [] first

-- names, by the numbers of their trustees, as numbers alone
abbrev pub ids_in : List (ℕ × Name) → List (ℕ × ℕ)
ids_in held = map (λ h. (h.0, h.1.id)) held
