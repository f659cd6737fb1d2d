-- `IsPrefix` where the longer list grows, the place of an item in two joined lists, and last items.
use Rattle.std.proofs.Common.{◌≡◌, ◌≢◌, ◌≤◌, ◌⊎◌, List, [], ◌∷◌, ◌++◌, length, inl, inr, refl, ◌∙◌, ap, arith, append_assoc, length-append}
use Rattle.tm_model.specs.Lists.{IsPrefix}

module _ {X : Type 0} where
  pub prefix_more : (xs ys zs : List X) → IsPrefix xs ys → IsPrefix xs (ys ++ zs)
  prefix_more xs ys zs (rest, e) = (rest ++ zs, ap (λ l. l ++ zs) e ∙ append_assoc xs rest zs)

  pub prefix_length : (xs ys : List X) → IsPrefix xs ys → length xs ≤ length ys
  prefix_length xs ys (rest, e) = rw (e, length-append) (omega arith)

  -- an item of two lists that are joined is one of the first or of the second
  pub split :
      (xs ys before : List X) (x : X) (after : List X) → xs ++ ys ≡ before ++ x ∷ after
      → ((mid : List X) × (xs ≡ before ++ x ∷ mid) × (after ≡ mid ++ ys))
      ⊎ ((mid : List X) × (before ≡ xs ++ mid) × (ys ≡ mid ++ x ∷ after))
  split [] ys before x after e = inr (before, refl, e)
  split (y ∷ xs) ys [] x after e = inl (xs, cc, cc)
  split (y ∷ xs) ys (b ∷ before) x after e =
      let rest : xs ++ ys ≡ before ++ x ∷ after = cc in
      let first : y ≡ b = cc in
      elim (split xs ys before x after rest) [ inl (mid, p, q) ↦ inl (mid, cc, q) | inr (mid, p, q) ↦ inr (mid, cc, q) ]

  -- where two lists that are joined are empty, the first is
  pub front_empty : (xs ys : List X) → xs ++ ys ≡ [] → xs ≡ []
  front_empty [] ys e = refl
  front_empty (x ∷ xs) ys e = absurd cc

  not_empty : (xs : List X) (x : X) → [] ≢ xs ++ x ∷ []
  not_empty [] x e = cc
  not_empty (y ∷ xs) x e = cc

  -- two lists that are equal have the same last item
  pub same_last : (xs ys : List X) (x y : X) → xs ++ x ∷ [] ≡ ys ++ y ∷ [] → x ≡ y
  same_last [] [] x y e = cc
  same_last [] (z ∷ ys) x y e = let rest : [] ≡ ys ++ y ∷ [] = cc in absurd (not_empty ys y rest)
  same_last (z ∷ xs) [] x y e = let rest : [] ≡ xs ++ x ∷ [] = cc in absurd (not_empty xs x rest)
  same_last (z ∷ xs) (u ∷ ys) x y e = let rest : xs ++ x ∷ [] ≡ ys ++ y ∷ [] = cc in same_last xs ys x y rest
