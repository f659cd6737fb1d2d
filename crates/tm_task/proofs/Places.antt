-- Reads and writes at the places of a list.
use Rattle.std.proofs.Common.{◌≡◌, ◌≢◌, ℕ, zero, suc, ◌<◌, ◌⊎◌, inl, inr, List, [], ◌∷◌, ◌++◌, length, refl, sym, ◌∙◌, ap, subst}
use Rattle.std.specs.Prelude.{slice_get, slice_index_or, slice_set, IsSomeAnd}
use Rattle.std.specs.List.{AllByRecursion}
use Rattle.std.proofs.lemmas.Option.{slice_get_read}
use Rattle.std.specs.declared.option.Option.{Option}
use Rattle.std.specs.declared.option.Option.TheVariants.{None, Some}

module _ {X : Type 0} where
  -- at other places a write changes nothing
  pub set_other : (xs : List X) (i k : ℕ) (v : X) → k ≢ i → slice_get (slice_set xs i v) k ≡ slice_get xs k
  set_other [] i k v ne = refl
  set_other (x ∷ xs) zero zero v ne = absurd (ne refl)
  set_other (x ∷ xs) zero (suc k) v ne = refl
  set_other (x ∷ xs) (suc i) zero v ne = refl
  set_other (x ∷ xs) (suc i) (suc k) v ne = set_other xs i k v (λ e. ne (ap (λ n. suc n) e))

  pub set_here : (xs : List X) (i : ℕ) (x v : X) → slice_get xs i ≡ Some x → slice_get (slice_set xs i v) i ≡ Some v
  set_here [] i x v e = absurd cc
  set_here (y ∷ xs) zero x v e = refl
  set_here (y ∷ xs) (suc i) x v e = set_here xs i x v e

  -- an element that is written back
  pub set_back : (xs : List X) (i : ℕ) (x v : X) → slice_get xs i ≡ Some x → slice_set (slice_set xs i v) i x ≡ xs
  set_back [] i x v e = absurd cc
  set_back (y ∷ xs) zero x v e = let is : x ≡ y = cc in ap (λ z. z ∷ xs) is
  set_back (y ∷ xs) (suc i) x v e = ap (λ zs. y ∷ zs) (set_back xs i x v e)

  pub set_twice : (xs : List X) (i : ℕ) (v w : X) → slice_set (slice_set xs i v) i w ≡ slice_set xs i w
  set_twice [] i v w = refl
  set_twice (x ∷ xs) zero v w = refl
  set_twice (x ∷ xs) (suc i) v w = ap (λ zs. x ∷ zs) (set_twice xs i v w)

  -- an element of a list with one more at the end
  pub push_cases : (xs : List X) (k : ℕ) (x y : X) → slice_get (xs ++ x ∷ []) k ≡ Some y → (slice_get xs k ≡ Some y) ⊎ (y ≡ x)
  push_cases [] zero x y e = inr cc
  push_cases [] (suc k) x y e = absurd cc
  push_cases (z ∷ xs) zero x y e = inl e
  push_cases (z ∷ xs) (suc k) x y e = push_cases xs k x y e

  pub read_some : (xs : List X) (i : ℕ) (x y : X) → slice_get xs i ≡ Some x → slice_get xs i ≡ Some y → x ≡ y
  read_some xs i x y e f = let same : Some x ≡ Some y = sym e ∙ f in cc

  -- what is read below the length of a list is its element there
  pub read_at : (xs : List X) (i : ℕ) (x : X) → i < length xs → x ≡ slice_index_or xs i x → slice_get xs i ≡ Some x
  read_at xs i x lt is = slice_get_read xs (length xs) i x refl lt is

  -- what holds of each element holds of one that is there
  pub all_at : (P : X → Type 0) (xs : List X) (i : ℕ) (x : X) → AllByRecursion P xs → slice_get xs i ≡ Some x → P x
  all_at P [] i x all e = absurd cc
  all_at P (y ∷ xs) zero x all e = let is : y ≡ x = cc in subst P is all.0
  all_at P (y ∷ xs) (suc i) x all e = all_at P xs i x all.1 e

  pub all_map : (P Q : X → Type 0) → ((x : X) → P x → Q x) → (xs : List X) → AllByRecursion P xs → AllByRecursion Q xs
  all_map P Q f [] all = tt
  all_map P Q f (x ∷ xs) all = (f x all.0, all_map P Q f xs all.1)

  -- what holds of the element at a place holds after a write that keeps it
  pub some_at_set : (P : X → Type 0) (xs : List X) (i k : ℕ) (x y : X) → slice_get xs i ≡ Some x → (P x → P y)
      → IsSomeAnd (slice_get xs k) P → IsSomeAnd (slice_get (slice_set xs i y) k) P
  some_at_set P [] i k x y e keeps h = absurd cc
  some_at_set P (z ∷ xs) zero zero x y e keeps h = let is : z ≡ x = cc in keeps (subst P is h)
  some_at_set P (z ∷ xs) zero (suc k) x y e keeps h = h
  some_at_set P (z ∷ xs) (suc i) zero x y e keeps h = h
  some_at_set P (z ∷ xs) (suc i) (suc k) x y e keeps h = some_at_set P xs i k x y e keeps h

  pub empty_parts : (xs ys : List X) → xs ++ ys ≡ [] → (xs ≡ []) × (ys ≡ [])
  empty_parts [] ys e = (refl, e)
  empty_parts (x ∷ xs) ys e = absurd cc

-- a function of the element at a place, which a write keeps
pub same_at_set : {X Y : Type 0} (f : Option X → Y) (xs : List X) (i k : ℕ) (x y : X) → slice_get xs i ≡ Some x → f (Some y) ≡ f (Some x)
    → f (slice_get (slice_set xs i y) k) ≡ f (slice_get xs k)
same_at_set f [] i k x y e same = absurd cc
same_at_set f (z ∷ xs) zero zero x y e same = let is : x ≡ z = cc in same ∙ ap (λ w. f (Some w)) is
same_at_set f (z ∷ xs) zero (suc k) x y e same = refl
same_at_set f (z ∷ xs) (suc i) zero x y e same = refl
same_at_set f (z ∷ xs) (suc i) (suc k) x y e same = same_at_set f xs i k x y e same

-- the element that is there
pub there : {X : Type 0} (P : X → Type 0) (o : Option X) → IsSomeAnd o P → (x : X) × (o ≡ Some x) × P x
there P None some = absurd some
there P (Some x) holds = (x, refl, holds)
