-- The front of a list, an element at a time.
use Rattle.std.proofs.Common.{◌≡◌, ◌≢◌, ℕ, zero, suc, ◌+◌, ◌<◌, true, false, List, [], ◌∷◌, ◌++◌, take, drop, length, slice_index_or, refl, sym, ◌∙◌, ap, arith}
use Rattle.std.specs.Prelude.{remove, ◌==◌, slice_get}
use Rattle.std.specs.declared.option.Option.TheVariants.{None, Some}
use Rattle.tm_core.proofs.CallerLemmas.{is_same}

module _ {X : Type 0} where
  front_longer : (n : ℕ) (xs : List X) → take n xs ++ take 1 (drop n xs) ≡ take (suc n) xs
  front_longer zero [] = refl
  front_longer zero (x ∷ xs) = refl
  front_longer (suc n) [] = refl
  front_longer (suc n) (x ∷ xs) = ap (λ l. x ∷ l) (front_longer n xs)

  rest_shorter : (n : ℕ) (xs : List X) → drop 1 (drop n xs) ≡ drop (suc n) xs
  rest_shorter zero [] = refl
  rest_shorter zero (x ∷ xs) = refl
  rest_shorter (suc n) [] = refl
  rest_shorter (suc n) (x ∷ xs) = rest_shorter n xs

  pub front_more : (n : ℕ) (xs : List X) → take n xs ++ take 1 (drop n xs) ≡ take (n + 1) xs
  front_more n xs = let next : suc n ≡ n + 1 = omega arith in front_longer n xs ∙ ap (λ m. take m xs) next

  pub rest_less : (n : ℕ) (xs : List X) → drop 1 (drop n xs) ≡ drop (n + 1) xs
  rest_less n xs = let next : suc n ≡ n + 1 = omega arith in rest_shorter n xs ∙ ap (λ m. drop m xs) next

  -- the first that was removed, and the rest, are all
  pub removed : (xs ys : List X) (x : X) → 0 < length xs → x ≡ slice_index_or xs 0 x → ys ≡ remove xs 0 → xs ≡ x ∷ ys
  removed [] ys x lt is e = absurd (omega (arith, lt))
  removed (y ∷ xs) ys x lt is e = rw e (ap (λ z. z ∷ xs) (sym is))

  -- what a test of a list's length tells
  pub empty_of : (xs : List X) → true ≡ (length xs == 0) → xs ≡ []
  empty_of [] e = refl
  empty_of (x ∷ xs) e = absurd (let none = is_same (length (x ∷ xs)) 0 (sym e) in omega (arith, none))

  pub some_of : (xs : List X) → false ≡ (length xs == 0) → xs ≢ []
  some_of [] e none = absurd cc
  some_of (x ∷ xs) e none = absurd cc

  pub one_front : (xs : List X) (x : X) → Some x ≡ slice_get xs 0 → take 1 xs ≡ x ∷ []
  one_front [] x e = absurd cc
  one_front (y ∷ xs) x e = let same : y ≡ x = cc in ap (λ z. z ∷ []) same

  pub no_front : (xs : List X) → None ≡ slice_get xs 0 → xs ≡ []
  no_front [] e = refl
  no_front (y ∷ xs) e = absurd cc

  -- the first, and the rest
  pub front_rest : (xs ys : List X) (x : X) → Some x ≡ slice_get xs 0 → ys ≡ drop 1 xs → xs ≡ x ∷ ys
  front_rest [] ys x e rest = absurd cc
  front_rest (y ∷ xs) ys x e rest = let same : y ≡ x = cc in ap (λ z. z ∷ xs) same ∙ ap (λ l. x ∷ l) (sym rest)
