-- The first elements of a row that stays full.
use Rattle.std.proofs.Common.{◌≡◌, ℕ, ◌+◌, ◌<◌, List, [], ◌∷◌, ◌++◌, length, take, drop, get_or, set, sym, ◌∙◌, ap, subst, arith}
use Rattle.std.proofs.lemmas.List.{take_more, get_or-drop, drop-set-lt, drop-drop}

module _ {A : Type 0} where
  -- the element at a position of two lists that are the same from there on
  here : (xs ys : List A) (i : ℕ) (item x : A) → drop i xs ≡ drop i ys → item ≡ get_or xs i item → x ≡ get_or xs i item → get_or ys i x ≡ x
  here xs ys i item x e is same =
      let at : (l : List A) → get_or (drop i l) 0 item ≡ get_or l i item = λ l. get_or-drop i l 0 item ∙ ap (λ n. get_or l n item) (omega arith) in
      subst (λ y. get_or ys i y ≡ y) (is ∙ sym same) (sym (at ys) ∙ ap (λ l. get_or l 0 item) (sym e) ∙ at xs ∙ sym is)

  pub one_further : (xs ys : List A) (i : ℕ) (y : A) → drop i xs ≡ drop i ys → drop (i + 1) (set xs i y) ≡ drop (i + 1) ys
  one_further xs ys i y e =
      drop-set-lt (i + 1) xs i y (omega arith) ∙ sym (drop-drop 1 i xs) ∙ ap (λ l. drop 1 l) e ∙ drop-drop 1 i ys

  -- one more was taken
  pub one_taken :
      (xs ys to new : List A) (i : ℕ) (item x : A) → drop i xs ≡ drop i ys → item ≡ get_or xs i item → x ≡ get_or xs i item → i < length ys → to ≡ take i ys
      → new ≡ to ++ x ∷ [] → new ≡ take (i + 1) ys
  one_taken xs ys to new i item x e is same lt t n =
      n ∙ ap (λ l. l ++ x ∷ []) t ∙ ap (λ z. take i ys ++ z ∷ []) (sym (here xs ys i item x e is same)) ∙ sym (take_more ys i x lt)
