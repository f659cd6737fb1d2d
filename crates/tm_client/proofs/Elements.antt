-- The elements of a list: what a write at an index leaves, and sums over all of them.
use Rattle.std.proofs.Common.{◌≡◌, ◌≢◌, ℕ, zero, suc, ◌+◌, ◌*◌, ◌<◌, ◌≤◌, ◌⊎◌, inl, inr, List, [], ◌∷◌, ◌++◌, length, refl, sym, ◌∙◌, ap, subst, arith}
use Rattle.std.specs.Prelude.{slice_get, slice_set}
use Rattle.std.specs.List.{AllByRecursion, Contains}
use Rattle.std.specs.declared.option.Option.TheVariants.{Some}
use Rattle.tm_client.specs.Clients.{total}

module _ {X : Type 0} where
  one_later :
      (xs : List X) (i k : ℕ) (v w : X) → ((k ≡ i) × (w ≡ v)) ⊎ ((k ≢ i) × (slice_get xs k ≡ Some w))
      → ((suc k ≡ suc i) × (w ≡ v)) ⊎ ((suc k ≢ suc i) × (slice_get xs k ≡ Some w))
  one_later xs i k v w (inl h) = inl (ap (λ n. suc n) h.0, h.1)
  one_later xs i k v w (inr h) = inr (λ same. h.0 (omega arith), h.1)

  -- after a write at i, an element is the one written, or that of before at another place
  pub set_cases :
      (xs : List X) (i k : ℕ) (v w : X) → slice_get (slice_set xs i v) k ≡ Some w
      → ((k ≡ i) × (w ≡ v)) ⊎ ((k ≢ i) × (slice_get xs k ≡ Some w))
  set_cases [] i k v w e = absurd cc
  set_cases (x ∷ xs) zero zero v w e = let is : w ≡ v = cc in inl (refl, is)
  set_cases (x ∷ xs) zero (suc k) v w e = inr (λ same. absurd (omega arith), e)
  set_cases (x ∷ xs) (suc i) zero v w e = inr (λ same. absurd (omega arith), e)
  set_cases (x ∷ xs) (suc i) (suc k) v w e = one_later xs i k v w (set_cases xs i k v w e)

  -- below its length a list has an element
  pub element_at : (xs : List X) (i : ℕ) → i < length xs → (x : X) × (slice_get xs i ≡ Some x)
  element_at [] i lt = absurd (omega (arith, lt))
  element_at (x ∷ xs) zero lt = (x, refl)
  element_at (x ∷ xs) (suc i) lt = element_at xs i (omega (arith, lt))

  pub same_element : (xs : List X) (k : ℕ) (x y : X) → slice_get xs k ≡ Some x → slice_get xs k ≡ Some y → y ≡ x
  same_element xs k x y ex ey = let same : Some y ≡ Some x = sym ey ∙ ex in cc

  -- an element of a list with one more at the end is one of before, or that one
  pub last_split :
      (xs before after : List X) (y x : X) → xs ++ y ∷ [] ≡ before ++ x ∷ after
      → ((mid : List X) × (xs ≡ before ++ x ∷ mid)) ⊎ ((before ≡ xs) × (x ≡ y))
  last_split [] [] after y x e = let is : x ≡ y = cc in inr (refl, is)
  last_split [] (b ∷ []) after y x e = absurd cc
  last_split [] (b ∷ d ∷ before) after y x e = absurd cc
  last_split (z ∷ xs) [] after y x e = inl (xs, cc)
  last_split (z ∷ xs) (b ∷ before) after y x e =
      let rest : xs ++ y ∷ [] ≡ before ++ x ∷ after = cc in
      let first : z ≡ b = cc in
      elim (last_split xs before after y x rest) [ inl (mid, p) ↦ inl (mid, cc) | inr (p, q) ↦ inr (cc, q) ]

  -- a write changes a sum by what the element was and is
  pub total_set :
      (f : X → ℕ) (xs : List X) (i : ℕ) (x y : X) → slice_get xs i ≡ Some x → total f (slice_set xs i y) + f x ≡ total f xs + f y
  total_set f [] i x y e = absurd cc
  total_set f (z ∷ xs) zero x y e =
      let is : z ≡ x = cc in
      let same : f z ≡ f x = ap f is in omega arith
  total_set f (z ∷ xs) (suc i) x y e = let rest = total_set f xs i x y e in omega arith

  -- a sum of numbers that are at most n
  pub total_most : (f : X → ℕ) (n : ℕ) (xs : List X) → ((i : ℕ) (x : X) → slice_get xs i ≡ Some x → f x ≤ n) → total f xs ≤ n * length xs
  total_most f n [] most = omega arith
  total_most f n (x ∷ xs) most =
      let first : f x ≤ n = most 0 x refl in
      let rest : total f xs ≤ n * length xs = total_most f n xs (λ i y e. most (suc i) y e) in
      let product : n * suc (length xs) ≡ n + n * length xs = omega arith in
      omega arith

  -- what holds of all elements holds of one that is there
  pub contained : (P : X → Type 0) (xs : List X) (x : X) → AllByRecursion P xs → Contains xs x → P x
  contained P [] x all (i, lt, e) = absurd (omega (arith, lt))
  contained P (y ∷ ys) x all (zero, lt, e) = let is : y ≡ x = e in subst P is all.0
  contained P (y ∷ ys) x all (suc i, lt, e) = contained P ys x all.1 (i, omega (arith, lt), e)
