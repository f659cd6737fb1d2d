-- What is one of a list.
use Rattle.std.proofs.Common.{◌≡◌, ◌⊎◌, inl, inr, zero, suc, true, false, List, [], ◌∷◌, ◌++◌, map, refl, sym, subst, arith}
use Rattle.std.specs.Prelude.{Bool, cond, filter}
use Rattle.std.specs.List.{AllByRecursion, Contains, flat_map}
use Rattle.std.proofs.lemmas.List.Elements.{Contains-append_left, Contains-append_right}

module _ {X : Type 0} where
  pub none_among : (x : X) → Contains [] x → ⊥
  none_among x (k, lt, at) = omega (arith, lt)

  pub first_among : (x : X) (xs : List X) → Contains (x ∷ xs) x
  first_among x xs = (0, omega arith, refl)

  pub later_among : (y : X) (xs : List X) (x : X) → Contains xs x → Contains (y ∷ xs) x
  later_among y xs x h = Contains-append_right (y ∷ []) xs x h

  pub among_cases : (y : X) (xs : List X) (x : X) → Contains (y ∷ xs) x → (x ≡ y) ⊎ Contains xs x
  among_cases y xs x (zero, lt, at) = inl (sym at)
  among_cases y xs x (suc k, lt, at) = inr (k, omega (arith, lt), at)

  pub among_parts : (xs ys : List X) (x : X) → Contains (xs ++ ys) x → Contains xs x ⊎ Contains ys x
  among_parts [] ys x h = inr h
  among_parts (y ∷ xs) ys x h =
      elim (among_cases y (xs ++ ys) x h) [
        | inl e ↦ inl (subst (λ z. Contains (z ∷ xs) x) e (first_among x xs))
        | inr later ↦ elim (among_parts xs ys x later) [ inl front ↦ inl (later_among y xs x front) | inr behind ↦ inr behind ]
      ]

  -- what holds of each that is one of a list holds of all
  pub all_among : (P : X → Type 0) (xs : List X) → ((x : X) → Contains xs x → P x) → AllByRecursion P xs
  all_among P [] h = tt
  all_among P (x ∷ xs) h = (h x (first_among x xs), all_among P xs (λ y has. h y (later_among x xs y has)))

  -- the two parts of a list of which all holds
  pub both_parts : (P : X → Type 0) (xs ys : List X) → AllByRecursion P (xs ++ ys) → AllByRecursion P xs × AllByRecursion P ys
  both_parts P [] ys h = (tt, h)
  both_parts P (x ∷ xs) ys h = let rest = both_parts P xs ys h.1 in ((h.0, rest.0), rest.1)

  kept_first : (b : Bool) (x : X) (xs : List X) → b ≡ true → Contains (cond b (x ∷ xs) xs) x
  kept_first true x xs e = first_among x xs
  kept_first false x xs e = absurd cc

  kept_later : (b : Bool) (y : X) (xs : List X) (x : X) → Contains xs x → Contains (cond b (y ∷ xs) xs) x
  kept_later true y xs x h = later_among y xs x h
  kept_later false y xs x h = h

  -- what a filter keeps
  pub kept_among : (test : X → Bool) (xs : List X) (x : X) → Contains xs x → test x ≡ true → Contains (filter test xs) x
  kept_among test [] x h e = absurd (none_among x h)
  kept_among test (y ∷ xs) x h e =
      elim (among_cases y xs x h) [
        | inl is ↦ subst (λ z. Contains (cond (test z) (z ∷ filter test xs) (filter test xs)) x) is (kept_first (test x) x (filter test xs) e)
        | inr later ↦ kept_later (test y) y (filter test xs) x (kept_among test xs x later e)
      ]

module _ {X Y : Type 0} where
  pub map_among : (f : X → Y) (xs : List X) (x : X) → Contains xs x → Contains (map f xs) (f x)
  map_among f [] x h = absurd (none_among x h)
  map_among f (y ∷ xs) x h =
      elim (among_cases y xs x h) [
        | inl e ↦ subst (λ z. Contains (f z ∷ map f xs) (f x)) e (first_among (f x) (map f xs))
        | inr later ↦ later_among (f y) (map f xs) (f x) (map_among f xs x later)
      ]

  -- one of what a function makes is what it makes of one
  pub among_map : (f : X → Y) (xs : List X) (y : Y) → Contains (map f xs) y → (x : X) × Contains xs x × (y ≡ f x)
  among_map f [] y h = absurd (none_among y h)
  among_map f (x ∷ xs) y h =
      elim (among_cases (f x) (map f xs) y h) [
        | inl e ↦ (x, first_among x xs, e)
        | inr later ↦ let (z, has, is) = among_map f xs y later in (z, later_among x xs z has, is)
      ]

  pub flat_among : (f : X → List Y) (xs : List X) (x : X) (y : Y) → Contains xs x → Contains (f x) y → Contains (flat_map f xs) y
  flat_among f [] x y h own = absurd (none_among x h)
  flat_among f (z ∷ xs) x y h own =
      elim (among_cases z xs x h) [
        | inl e ↦ Contains-append_left (f z) (flat_map f xs) y (subst (λ w. Contains (f w) y) e own)
        | inr later ↦ Contains-append_right (f z) (flat_map f xs) y (flat_among f xs x y later own)
      ]
