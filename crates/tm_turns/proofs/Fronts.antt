-- Lists whose first element is taken out, and lists with one element more.
use Rattle.std.proofs.Common.{◌≡◌, ℕ, zero, suc, ◌+◌, ◌-◌, ◌<◌, ◌≤◌, ◌⊎◌, inl, inr, List, [], ◌∷◌, ◌++◌, length, length-drop, drop, slice_index_or, refl, sym, ◌∙◌, ap, arith}
use Rattle.std.specs.Prelude.{slice_get, IfOk}
use Rattle.std.specs.declared.result.Result.{Result}
use Rattle.std.specs.declared.result.Result.TheVariants.{Ok, Err}
use Rattle.std.specs.List.{AllByRecursion}
use Rattle.std.specs.declared.option.Option.TheVariants.{Some}
use Rattle.std.proofs.lemmas.List.{drop-drop, get_or-drop}
use Rattle.std.proofs.lemmas.Option.{slice_get_read}

module _ {X : Type 0} where
  -- an element of a list with one more is one of before or the last
  pub last_cases :
      (xs : List X) (x : X) (i : ℕ) (y : X) → slice_get (xs ++ x ∷ []) i ≡ Some y → (slice_get xs i ≡ Some y) ⊎ ((i ≡ length xs) × (y ≡ x))
  last_cases [] x zero y e = let is : x ≡ y = cc in inr (refl, sym is)
  last_cases [] x (suc i) y e = absurd cc
  last_cases (z ∷ xs) x zero y e = inl e
  last_cases (z ∷ xs) x (suc i) y e =
      elim (last_cases xs x i y e) [
        | inl before ↦ inl before
        | inr h ↦ inr (ap (λ n. suc n) h.0, h.1)
      ]

  -- what is taken out at the front of a list of which n are gone already is element n of it
  pub front_is : (xs ys : List X) (n : ℕ) (x : X) → ys ≡ drop n xs → 1 ≤ length ys → x ≡ slice_index_or ys 0 x → slice_get xs n ≡ Some x
  front_is xs ys n x e some is =
      let many : length ys ≡ length xs - n = ap (λ l. length l) e ∙ length-drop n xs in
      let lt : n < length xs = omega (arith, many, some) in
      let at : n + 0 ≡ n = omega arith in
      slice_get_read xs (length xs) n x refl lt
      (is ∙ ap (λ l. slice_index_or l 0 x) e ∙ get_or-drop n xs 0 x ∙ ap (λ k. slice_index_or xs k x) at)

  -- and one more is gone then
  pub rest_is : (xs ys zs : List X) (n : ℕ) → ys ≡ drop n xs → zs ≡ drop 1 ys → zs ≡ drop (n + 1) xs
  rest_is xs ys zs n e is = is ∙ ap (λ l. drop 1 l) e ∙ drop-drop 1 n xs

  pub rest_many : (xs ys : List X) (n m : ℕ) → ys ≡ drop n xs → n < m → m ≤ length xs → 1 ≤ length ys
  rest_many xs ys n m e lt le =
      let many : length ys ≡ length xs - n = ap (λ l. length l) e ∙ length-drop n xs in omega (arith, many, lt, le)

  pub get_drop : (xs : List X) (n i : ℕ) → slice_get (drop n xs) i ≡ slice_get xs (n + i)
  get_drop xs zero i = ap (λ k. slice_get xs k) (omega arith)
  get_drop [] (suc n) i = refl
  get_drop (x ∷ xs) (suc n) i =
      let e : suc n + i ≡ suc (n + i) = omega arith in get_drop xs n i ∙ sym (ap (λ k. slice_get (x ∷ xs) k) e)

  -- what holds of the element at each index holds of each element
  pub all_from_each : (P : X → Type 0) (xs : List X) → ((k : ℕ) (x : X) → slice_get xs k ≡ Some x → P x) → AllByRecursion P xs
  all_from_each P [] each = tt
  all_from_each P (x ∷ xs) each = (each 0 x refl, all_from_each P xs (λ k y e. each (suc k) y e))

-- what follows from three facts on what was given
pub ok_of_three :
    {X E : Type 0} (r : Result X E) (P Q R S : X → Type 0) → ((x : X) → P x → Q x → R x → S x) → IfOk r P → IfOk r Q → IfOk r R → IfOk r S
ok_of_three (Ok x) P Q R S to p q r = to x p q r
ok_of_three (Err e) P Q R S to p q r = tt

-- of a list of which fewer are gone than it had one is left
pub some_left : {X : Type 0} (xs ys : List X) (n count : ℕ) → ys ≡ drop n xs → length xs ≡ count → n < count → 1 ≤ length ys
some_left xs ys n count e many lt = rest_many xs ys n (n + 1) e (omega arith) (omega (arith, many, lt))
