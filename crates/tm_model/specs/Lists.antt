-- Words on lists.
use Rattle.std.specs.Prelude.{◌≡◌, List, [], ◌∷◌, ◌++◌}

module _ {X : Type 0} where
  -- xs begins ys
  abbrev pub IsPrefix : List X → List X → Type 0
  IsPrefix xs ys = (rest : List X) × (ys ≡ xs ++ rest)

  -- x is the last of xs
  abbrev pub EndsIn : List X → X → Type 0
  EndsIn xs x = (front : List X) × (xs ≡ front ++ x ∷ [])
