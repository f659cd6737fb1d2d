-- The front of a list, an element at a time.
use Rattle.std.proofs.Common.{◌≡◌, ℕ, zero, suc, ◌+◌, ◌<◌, List, [], ◌∷◌, ◌++◌, take, drop, length, Bool, true, false, not, refl, sym, ◌∙◌, ap, subst, arith}
use Rattle.std.specs.Prelude.{◌==◌, ◌≢◌, ◌↔◌, IsTrue, IsOk, OnOk, IsSomeAnd, slice_get, slice_set}
use Rattle.std.specs.declared.option.Option.{Option}
use Rattle.std.specs.declared.option.Option.TheVariants.{None, Some}
use Rattle.tm_core.proofs.CallerLemmas.{is_same}
use Rattle.std.specs.declared.result.Result.{Result}
use Rattle.std.specs.declared.result.Result.TheVariants.{Ok, Err}

-- what is said of an `Ok` holds where the result is one
pub ok_then : {A B : Type 0} (r : Result A B) (P : Type 0) → IsOk r → OnOk r P → P
ok_then (Ok x) P ok h = h
ok_then (Err x) P ok h = absurd cc

module _ {X : Type 0} where
  pub one_front : (xs : List X) (x : X) → Some x ≡ slice_get xs 0 → take 1 xs ≡ x ∷ []
  one_front [] x e = absurd cc
  one_front (y ∷ xs) x e = let same : y ≡ x = cc in ap (λ z. z ∷ []) same

  pub no_front : (xs : List X) → None ≡ slice_get xs 0 → xs ≡ []
  no_front [] e = refl
  no_front (y ∷ xs) e = absurd cc

  front_longer : (n : ℕ) (xs : List X) → take n xs ++ take 1 (drop n xs) ≡ take (suc n) xs
  front_longer zero [] = refl
  front_longer zero (x ∷ xs) = refl
  front_longer (suc n) [] = refl
  front_longer (suc n) (x ∷ xs) = ap (λ l. x ∷ l) (front_longer n xs)

  rest_shorter : (n : ℕ) (xs : List X) → drop 1 (drop n xs) ≡ drop (suc n) xs
  rest_shorter zero [] = refl
  rest_shorter zero (x ∷ xs) = refl
  rest_shorter (suc n) [] = refl
  rest_shorter (suc n) (x ∷ xs) = rest_shorter n xs

  pub front_more : (n : ℕ) (xs : List X) → take n xs ++ take 1 (drop n xs) ≡ take (n + 1) xs
  front_more n xs = let next : suc n ≡ n + 1 = omega arith in front_longer n xs ∙ ap (λ m. take m xs) next

  pub rest_less : (n : ℕ) (xs : List X) → drop 1 (drop n xs) ≡ drop (n + 1) xs
  rest_less n xs = let next : suc n ≡ n + 1 = omega arith in rest_shorter n xs ∙ ap (λ m. drop m xs) next

  -- a list whose length a test finds to be 0
  pub empty_of : (xs : List X) → true ≡ (length xs == 0) → xs ≡ []
  empty_of [] e = refl
  empty_of (x ∷ xs) e = absurd (let none = is_same (length (x ∷ xs)) 0 (sym e) in omega (arith, none))

  -- what holds of a value that is there
  pub some_has : (o : Option X) (x : X) (P : X → Type 0) → o ≡ Some x → IsSomeAnd o P → P x
  some_has o x P e h = subst (λ o. IsSomeAnd o P) e h

  -- what a write at an index leaves there, and that writing what stands there changes nothing
  pub set_there : (xs : List X) (i : ℕ) (y : X) → i < length xs → slice_get (slice_set xs i y) i ≡ Some y
  set_there [] i y lt = absurd (omega (arith, lt))
  set_there (x ∷ xs) zero y lt = refl
  set_there (x ∷ xs) (suc i) y lt = set_there xs i y (omega (arith, lt))

  pub set_same : (xs : List X) (i : ℕ) (x : X) → slice_get xs i ≡ Some x → slice_set xs i x ≡ xs
  set_same [] i x e = absurd cc
  set_same (y ∷ xs) zero x e = let same : x ≡ y = cc in ap (λ z. z ∷ xs) same
  set_same (y ∷ xs) (suc i) x e = ap (λ l. y ∷ l) (set_same xs i x e)

-- some stand in a list that a test does not find empty
pub some_in : {X : Type 0} (xs : List X) (b : Bool) → b ≡ (length xs == 0) → IsTrue (not b) ↔ (xs ≢ [])
some_in xs true e = (λ t. absurd cc, λ ne. absurd (ne (empty_of xs e)))
some_in xs false e = (λ t none. let both : false ≡ true = e ∙ ap (λ l. length l == 0) none in cc, λ ne. refl)
