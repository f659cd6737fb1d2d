-- An element among others, and numbers of which no two are the same.
use Rattle.std.proofs.Common.{◌≡◌, ◌≢◌, ℕ, zero, suc, false, ◌||◌, List, [], ◌∷◌, ◌++◌, map, drop, inl, inr, refl, sym, ◌∙◌, ap, subst, eq-eqb, ne_eqb}
use Rattle.std.specs.Prelude.{nat_eq}
use Rattle.std.specs.Cmp.{nat_eq_equiv}
use Rattle.std.specs.List.{AllByRecursion, IsDistinct, list_any}
use Rattle.std.proofs.lemmas.Map.Keys.{IsDistinct-head, IsDistinct-tail, IsDistinct-push}
use Rattle.tm_trustee.specs.NestedAsks.{IsAmong}

module _ {X : Type 0} where
  pub among_more : (x : X) (xs ys : List X) → IsAmong x xs → IsAmong x (xs ++ ys)
  among_more x [] ys h = absurd h
  among_more x (y ∷ xs) ys (inl e) = inl e
  among_more x (y ∷ xs) ys (inr h) = inr (among_more x xs ys h)

  pub among_last : (x : X) (xs : List X) → IsAmong x (xs ++ x ∷ [])
  among_last x [] = inl refl
  among_last x (y ∷ xs) = inr (among_last x xs)

  pub all_among : (P : X → Type 0) (x : X) (xs : List X) → AllByRecursion P xs → IsAmong x xs → P x
  all_among P x [] all h = absurd h
  all_among P x (y ∷ xs) all (inl e) = subst P e all.0
  all_among P x (y ∷ xs) all (inr h) = all_among P x xs all.1 h

  pub all_drop : (P : X → Type 0) (n : ℕ) (xs : List X) → AllByRecursion P xs → AllByRecursion P (drop n xs)
  all_drop P zero xs all = all
  all_drop P (suc n) [] all = tt
  all_drop P (suc n) (x ∷ xs) all = all_drop P n xs all.1

  module _ (f : X → ℕ) where
    -- those behind the first are of other numbers
    pub apart_tail : (x : X) (xs : List X) → IsDistinct nat_eq (map f (x ∷ xs)) → AllByRecursion (λ y. f y ≢ f x) xs
    apart_tail x xs distinct = others x xs (IsDistinct-head nat_eq (f x) (map f xs) distinct)
      where
        others : (x : X) (ys : List X) → AllByRecursion (λ k. nat_eq (f x) k ≡ false) (map f ys) → AllByRecursion (λ y. f y ≢ f x) ys
        others x [] all = tt
        others x (y ∷ ys) all = ((λ e. let yes = eq-eqb (f x) (f y) (sym e) in let no = all.0 in absurd cc), others x ys all.1)

    pub distinct_tail : (x : X) (xs : List X) → IsDistinct nat_eq (map f (x ∷ xs)) → IsDistinct nat_eq (map f xs)
    distinct_tail x xs distinct = IsDistinct-tail nat_eq (f x) (map f xs) distinct

    none_same : (n : ℕ) (xs : List X) → AllByRecursion (λ y. f y ≢ n) xs → list_any (nat_eq n) (map f xs) ≡ false
    none_same n [] all = refl
    none_same n (x ∷ xs) all = ap (λ b. b || list_any (nat_eq n) (map f xs)) (ne_eqb n (f x) (λ e. all.0 (sym e))) ∙ none_same n xs all.1

    -- one more of another number
    pub distinct_more : (xs : List X) (x : X) → IsDistinct nat_eq (map f xs) → AllByRecursion (λ y. f y ≢ f x) xs → IsDistinct nat_eq (map f (xs ++ x ∷ []))
    distinct_more xs x distinct all =
        subst (λ l. IsDistinct nat_eq l) (sym (map_last xs x)) (IsDistinct-push nat_eq_equiv (map f xs) (f x) distinct (none_same (f x) xs all))
      where
        map_last : (ys : List X) (x : X) → map f (ys ++ x ∷ []) ≡ map f ys ++ f x ∷ []
        map_last [] x = refl
        map_last (y ∷ ys) x = ap (λ l. f y ∷ l) (map_last ys x)
