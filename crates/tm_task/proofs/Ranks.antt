-- Lists along which a number does not fall.
use Rattle.std.proofs.Common.{◌≡◌, ℕ, zero, suc, ◌≤◌, List, [], ◌∷◌, ◌++◌, arith}
use Rattle.std.specs.List.{All}
use Rattle.std.specs.List.Sorted.{IsNonDecreasingBy}
use Rattle.std.proofs.lemmas.List.Elements.{All-append, All-tail, All-weaker}

module _ {X : Type 0} (f : X → ℕ) where
  -- where it is one number
  pub one_rank : (xs : List X) (m : ℕ) → All (λ x. f x ≡ m) xs → IsNonDecreasingBy f xs
  one_rank xs m all = λ i j d le less.
      let here = all i d (omega (arith, le, less)) in
      let there = all j d less in
      omega (arith, here, there)

  one_more : (x : X) (xs : List X) → All (λ y. f x ≤ f y) xs → IsNonDecreasingBy f xs → IsNonDecreasingBy f (x ∷ xs)
  one_more x xs above more zero zero d le less = omega arith
  one_more x xs above more zero (suc j) d le less = above j d (omega (arith, less))
  one_more x xs above more (suc i) zero d le less = absurd (omega (arith, le))
  one_more x xs above more (suc i) (suc j) d le less = more i j d (omega (arith, le)) (omega (arith, less))

  -- and of one list behind another, where a number lies between
  pub rising_joined : (xs ys : List X) (m : ℕ) → IsNonDecreasingBy f xs → IsNonDecreasingBy f ys → All (λ x. f x ≤ m) xs → All (λ y. m ≤ f y) ys
      → IsNonDecreasingBy f (xs ++ ys)
  rising_joined [] ys m rises more below above = more
  rising_joined (x ∷ xs) ys m rises more below above =
      let first : f x ≤ m = below 0 x (omega arith) in
      let own : All (λ y. f x ≤ f y) xs = λ k d less. rises 0 (suc k) d (omega arith) (omega (arith, less)) in
      let others : All (λ y. f x ≤ f y) ys = All-weaker (λ y. m ≤ f y) (λ y. f x ≤ f y) (λ y h. omega (arith, first, h)) ys above in
      let rest : IsNonDecreasingBy f xs = λ i j d le less. rises (suc i) (suc j) d (omega (arith, le)) (omega (arith, less)) in
      one_more x (xs ++ ys) (All-append (λ y. f x ≤ f y) xs ys own others)
      (rising_joined xs ys m rest more (All-tail (λ x. f x ≤ m) x xs below) above)
