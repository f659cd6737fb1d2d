-- Lemmas that know of no log: `is_same` and `item_within` on numbers, `option_cases`, `found` and `found_both` on options, two on first
-- launches, and `all_*` on what holds of all items of a list that is mapped, filtered, joined, set or repeated.
-- Other crates import from this file.
use Rattle.std.proofs.Common.{◌≡◌, ℕ, zero, suc, Bool, true, false, cond, List, [], ◌∷◌, ◌++◌, map, filter, slice_index_or, slice_set, inl, inr, refl, ne_eqb, ◌≤◌, ◌⊎◌, length, sum, arith}
use Rattle.std.specs.Prelude.{◌==◌}
use Rattle.std.proofs.lemmas.Bool.{cases_eq, cases_lt}
use Rattle.std.proofs.lemmas.List.{get_or_past}
use Rattle.std.proofs.lemmas.List.Sums.{get_or-le-sum_by}
use Rattle.std.proofs.Math.ListN.{replicate}
use Rattle.std.specs.List.{AllByRecursion}
use Rattle.tm_model.specs.State.{Work}
use Rattle.tm_model.specs.Legal.{HasFirst}
use Rattle.std.specs.Option.{IsSomeAnd}
use Rattle.std.specs.declared.option.Option.{Option}
use Rattle.std.specs.declared.option.Option.TheVariants.{None, Some}

-- numbers that a test says are the same
pub is_same : (a b : ℕ) → (a == b) ≡ true → a ≡ b
is_same a b h = elim (cases_eq a b) [ inl e ↦ e | inr ne ↦ absurd (let no = ne_eqb a b ne in cc) ]

-- an item is no more than all
pub item_within : (xs : List ℕ) (i : ℕ) → slice_index_or xs i 0 ≤ sum xs
item_within xs i =
    elim (cases_lt i (length xs)) [
      | inl lt ↦ get_or-le-sum_by (λ x. x) xs i 0 lt
      | inr ge ↦ let none = get_or_past xs i 0 ge in omega (arith, none)
    ]

-- what holds of a first launch
pub weaker_first : {T : Type 0} (ws : List (Work T)) (P Q : Work T → Type 0) → ((w : Work T) → P w → Q w) → HasFirst ws P → HasFirst ws Q
weaker_first [] P Q each h = absurd h
weaker_first (w ∷ ws) P Q each h = each w h

pub first_both : {T : Type 0} (ws : List (Work T)) (P Q : Work T → Type 0) → HasFirst ws P → AllByRecursion Q ws → HasFirst ws (λ w. P w × Q w)
first_both [] P Q h all = absurd h
first_both (w ∷ ws) P Q h all = (h, all.0)

-- there is a value, or none
pub option_cases : {X : Type 0} (o : Option X) → (o ≡ None) ⊎ ((x : X) × (o ≡ Some x))
option_cases None = inl refl
option_cases (Some x) = inr (x, refl)

-- the value that is there
pub found : {X : Type 0} (o : Option X) (P : X → Type 0) → IsSomeAnd o P → (x : X) × (o ≡ Some x) × P x
found None P h = absurd h
found (Some x) P h = (x, refl, h)

-- and both of two
pub found_both : {X : Type 0} (o : Option X) (P Q : X → Type 0) → IsSomeAnd o P → IsSomeAnd o Q → (x : X) × (o ≡ Some x) × P x × Q x
found_both None P Q p q = absurd p
found_both (Some x) P Q p q = (x, refl, p, q)

pub all_map : {X Y : Type 0} (P : X → Type 0) (Q : Y → Type 0) (f : X → Y) (xs : List X) → ((x : X) → P x → Q (f x)) → AllByRecursion P xs → AllByRecursion Q (map f xs)
all_map P Q f [] each h = tt
all_map P Q f (x ∷ xs) each h = (each x h.0, all_map P Q f xs each h.1)

module _ {X : Type 0} where
  pub all_weaker : (P Q : X → Type 0) (xs : List X) → ((x : X) → P x → Q x) → AllByRecursion P xs → AllByRecursion Q xs
  all_weaker P Q [] each h = tt
  all_weaker P Q (x ∷ xs) each h = (each x h.0, all_weaker P Q xs each h.1)

  pub all_both : (P Q : X → Type 0) (xs : List X) → AllByRecursion P xs → AllByRecursion Q xs → AllByRecursion (λ x. P x × Q x) xs
  all_both P Q [] h k = tt
  all_both P Q (x ∷ xs) h k = ((h.0, k.0), all_both P Q xs h.1 k.1)

  -- items that a filter leaves pass its test
  pub all_filter : (P : X → Type 0) (p : X → Bool) (xs : List X) → AllByRecursion P xs → AllByRecursion (λ x. P x × (p x ≡ true)) (filter p xs)
  all_filter P p [] h = tt
  all_filter P p (x ∷ xs) h =
      let more = all_filter P p xs h.1 in
      let first : (p x ≡ true) → P x × (p x ≡ true) = λ e. (h.0, e) in
      elim (p x) as (λ t. ((t ≡ true) → P x × (p x ≡ true)) → AllByRecursion (λ x. P x × (p x ≡ true)) (cond t (x ∷ filter p xs) (filter p xs))) [
        | true ↦ λ first. (first refl, more)
        | false ↦ λ first. more
      ] first

  pub all-append : (P : X → Type 0) (xs ys : List X) → AllByRecursion P xs → AllByRecursion P ys → AllByRecursion P (xs ++ ys)
  all-append P [] ys h k = k
  all-append P (x ∷ xs) ys h k = (h.0, all-append P xs ys h.1 k)

  pub all_set : (P : X → Type 0) (xs : List X) (i : ℕ) (y : X) → P y → AllByRecursion P xs → AllByRecursion P (slice_set xs i y)
  all_set P [] i y own h = tt
  all_set P (x ∷ xs) zero y own h = (own, h.1)
  all_set P (x ∷ xs) (suc i) y own h = (h.0, all_set P xs i y own h.1)

  pub all_at : (P : X → Type 0) (xs : List X) (i : ℕ) (d : X) → P d → AllByRecursion P xs → P (slice_index_or xs i d)
  all_at P [] i d default h = default
  all_at P (x ∷ xs) zero d default h = h.0
  all_at P (x ∷ xs) (suc i) d default h = all_at P xs i d default h.1

  -- what holds of each value holds of all
  pub all_each : (P : X → Type 0) (xs : List X) → ((x : X) → P x) → AllByRecursion P xs
  all_each P [] each = tt
  all_each P (x ∷ xs) each = (each x, all_each P xs each)

  pub all_replicate : (P : X → Type 0) (n : ℕ) (x : X) → P x → AllByRecursion P (replicate n x)
  all_replicate P zero x h = tt
  all_replicate P (suc n) x h = (h, all_replicate P n x h)
