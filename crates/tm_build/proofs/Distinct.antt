-- Lists that have no number twice.
use Rattle.std.proofs.Common.{◌≡◌, ℕ, ◌==◌, ◌||◌, Bool, true, false, ◌⊎◌, inl, inr, List, [], ◌∷◌, ◌++◌, refl, sym, ◌∙◌, ap, subst, eq-eqb, eqb-true, suc, ◌<◌, length, take, drop, slice_index_or, take-append-drop, drop-cons}
use Rattle.std.specs.Prelude.{nat_eq}
use Rattle.std.specs.List.{AllByRecursion, IsDistinct, list_any}

pub distinct_none : IsDistinct nat_eq []
unfolding IsDistinct
distinct_none = tt

or_cases : (a b : Bool) → (a || b) ≡ false → (a ≡ false) × (b ≡ false)
or_cases true b e = absurd cc
or_cases false b e = (refl, e)

all_one : (x y : ℕ) (xs : List ℕ) → AllByRecursion (λ z. nat_eq x z ≡ false) xs → nat_eq x y ≡ false → AllByRecursion (λ z. nat_eq x z ≡ false) (xs ++ y ∷ [])
all_one x y [] all e = (e, tt)
all_one x y (z ∷ xs) all e = (all.0, all_one x y xs all.1 e)

-- one more that is not among them
pub distinct_more : (xs : List ℕ) (x : ℕ) → IsDistinct nat_eq xs → list_any (λ y. y == x) xs ≡ false → IsDistinct nat_eq (xs ++ x ∷ [])
unfolding IsDistinct
distinct_more [] x distinct none = (tt, tt)
distinct_more (y ∷ xs) x distinct none =
    let (here, later) = or_cases (y == x) (list_any (λ z. z == x) xs) none in
    (all_one y x xs distinct.0 here, distinct_more xs x distinct.1 later)

-- one more that is among them
not_all : (x : ℕ) (xs rest : List ℕ) → AllByRecursion (λ z. nat_eq x z ≡ false) (xs ++ x ∷ rest) → ⊥
not_all x [] rest all = let same : nat_eq x x ≡ true = eq-eqb x x refl in absurd cc
not_all x (y ∷ xs) rest all = not_all x xs rest all.1

bool_or : (a b : Bool) → (a || b) ≡ true → (a ≡ true) ⊎ (b ≡ true)
bool_or true b e = inl refl
bool_or false b e = inr e

pub distinct_not : (xs : List ℕ) (x : ℕ) (rest : List ℕ) → list_any (λ y. y == x) xs ≡ true → IsDistinct nat_eq (xs ++ x ∷ rest) → ⊥
unfolding IsDistinct
distinct_not [] x rest some distinct = absurd cc
distinct_not (y ∷ xs) x rest some distinct =
    elim (bool_or (y == x) (list_any (λ z. z == x) xs) some) [
      | inl is ↦
          let same : y ≡ x = eqb-true y x is in
          not_all x xs rest (subst (λ k. AllByRecursion (λ z. nat_eq k z ≡ false) (xs ++ x ∷ rest)) same distinct.0)
      | inr later ↦ distinct_not xs x rest later distinct.1
    ]

-- a list, cut at one of its elements
pub split_at : (xs : List ℕ) (i d : ℕ) → i < length xs → xs ≡ take i xs ++ slice_index_or xs i d ∷ drop (suc i) xs
split_at xs i d lt = sym (take-append-drop i xs) ∙ ap (λ ys. take i xs ++ ys) (drop-cons xs i d lt)
