-- What filters leave of items, and how the words on items go together.
use Rattle.std.proofs.Common.{◌≡◌, ℕ, zero, suc, Bool, true, false, cond, not, List, [], ◌∷◌, take, Some, refl, sym, ap}
use Rattle.std.specs.List.{filter}
use Rattle.std.specs.Cmp.Lexicographic.{same_text, nat_list_eq_equiv}
use Rattle.mc_item.specs.Classes.{class_of}
use Rattle.mc_model.specs.declared.item.Item.{Item}
use Rattle.mc_model.specs.Items.{Items, same_key, item_at, without, first, of_classes, first_of}

-- ---- filters

module _ {X : Type 0} where
  pub filter_swap : (p q : X → Bool) (xs : List X) → filter p (filter q xs) ≡ filter q (filter p xs)
  filter_swap p q [] = refl
  filter_swap p q (x ∷ xs) = (elim (p x) as (λ b. p x ≡ b → filter p (cond (q x) (x ∷ filter q xs) (filter q xs)) ≡ filter q (cond b (x ∷ filter p xs) (filter p xs))) [
    | true ↦ λ e. (elim (q x) as (λ b. q x ≡ b → filter p (cond b (x ∷ filter q xs) (filter q xs)) ≡ filter q (x ∷ filter p xs)) [
      | true ↦ λ f. rw (e, f) (ap (λ l. x ∷ l) (filter_swap p q xs))
      | false ↦ λ f. rw f (filter_swap p q xs)
    ]) refl
    | false ↦ λ e. (elim (q x) as (λ b. q x ≡ b → filter p (cond b (x ∷ filter q xs) (filter q xs)) ≡ filter q (filter p xs)) [
      | true ↦ λ f. rw e (filter_swap p q xs)
      | false ↦ λ f. filter_swap p q xs
    ]) refl
  ]) refl

  -- a filter that is less strict changes nothing
  pub filter_stricter : (p q : X → Bool) (xs : List X) → ((x : X) → q x ≡ true → p x ≡ true) → filter q (filter p xs) ≡ filter q xs
  filter_stricter p q [] h = refl
  filter_stricter p q (x ∷ xs) h = (elim (q x) as (λ b. q x ≡ b → filter q (cond (p x) (x ∷ filter p xs) (filter p xs)) ≡ cond b (x ∷ filter q xs) (filter q xs)) [
    | true ↦ λ e. rw (h x e, e) (ap (λ l. x ∷ l) (filter_stricter p q xs h))
    | false ↦ λ e. (elim (p x) as (λ b. filter q (cond b (x ∷ filter p xs) (filter p xs)) ≡ filter q xs) [
      | true ↦ rw e (filter_stricter p q xs h)
      | false ↦ filter_stricter p q xs h
    ])
  ]) refl

  -- nothing passes both
  pub filter_apart : (p q : X → Bool) (xs : List X) → ((x : X) → q x ≡ true → p x ≡ false) → filter q (filter p xs) ≡ []
  filter_apart p q [] h = refl
  filter_apart p q (x ∷ xs) h = (elim (p x) as (λ b. p x ≡ b → filter q (cond b (x ∷ filter p xs) (filter p xs)) ≡ []) [
    | true ↦ λ e. (elim (q x) as (λ b. q x ≡ b → cond b (x ∷ filter q (filter p xs)) (filter q (filter p xs)) ≡ []) [
      | true ↦ λ f. absurd (let g = h x f in cc)
      | false ↦ λ f. filter_apart p q xs h
    ]) refl
    | false ↦ λ e. filter_apart p q xs h
  ]) refl

  pub filter_all : (p : X → Bool) (xs : List X) → ((x : X) → p x ≡ true) → filter p xs ≡ xs
  filter_all p [] h = refl
  filter_all p (x ∷ xs) h = rw (h x) (ap (λ l. x ∷ l) (filter_all p xs h))

-- ---- keys

pub same_key-refl : (key : List ℕ) → same_key key key ≡ true
same_key-refl key = nat_list_eq_equiv.refl key

pub same_key-true : (key other : List ℕ) → same_key key other ≡ true → key ≡ other
same_key-true key other e = same_text key other (sym e)

-- keys of two classes are two keys
pub other_key : (test : ℕ → Bool) (key other : List ℕ) → test (class_of key) ≡ false → test (class_of other) ≡ true → same_key key other ≡ false
other_key test key other out_of_it in_it = (elim (same_key key other) as (λ b. same_key key other ≡ b → b ≡ false) [
  | true ↦ λ e. absurd (let same = ap (λ k. test (class_of k)) (same_key-true key other e) in cc)
  | false ↦ λ e. refl
]) refl

-- ---- the items of some classes

pub item_at-of_classes : (test : ℕ → Bool) (items : Items) (key : List ℕ) → test (class_of key) ≡ true → item_at (of_classes test items) key ≡ item_at items key
unfolding of_classes
item_at-of_classes test [] key in_it = refl
item_at-of_classes test (e ∷ items) key in_it = (elim (test (class_of e.0)) as (λ b. test (class_of e.0) ≡ b → item_at (cond b (e ∷ of_classes test items) (of_classes test items)) key ≡ cond (same_key key e.0) (Some e.1) (item_at items key)) [
  | true ↦ λ h. ap (cond (same_key key e.0) (Some e.1)) (item_at-of_classes test items key in_it)
  | false ↦ λ h. (elim (same_key key e.0) as (λ b. same_key key e.0 ≡ b → item_at (of_classes test items) key ≡ cond b (Some e.1) (item_at items key)) [
    | true ↦ λ g. absurd (let same = ap (λ k. test (class_of k)) (same_key-true key e.0 g) in cc)
    | false ↦ λ g. item_at-of_classes test items key in_it
  ]) refl
]) refl

pub of_classes-without : (test : ℕ → Bool) (items : Items) (key : List ℕ) → of_classes test (without items key) ≡ without (of_classes test items) key
unfolding of_classes without
of_classes-without test items key = filter_swap _ _ items

pub of_classes-without_other : (test : ℕ → Bool) (items : Items) (key : List ℕ) → test (class_of key) ≡ false → of_classes test (without items key) ≡ of_classes test items
unfolding of_classes without
of_classes-without_other test items key out_of_it = filter_stricter _ _ items (λ e in_it. ap not (other_key test key e.0 out_of_it in_it))

pub of_classes-first : (test : ℕ → Bool) (items : Items) (key : List ℕ) (item : Item) → test (class_of key) ≡ true → of_classes test (first items key item) ≡ first (of_classes test items) key item
unfolding of_classes first without
of_classes-first test items key item in_it = rw in_it (ap (λ l. (key, item) ∷ l) (filter_swap _ _ items))

pub of_classes-first_other : (test : ℕ → Bool) (items : Items) (key : List ℕ) (item : Item) → test (class_of key) ≡ false → of_classes test (first items key item) ≡ of_classes test items
unfolding of_classes first without
of_classes-first_other test items key item out_of_it = rw out_of_it (filter_stricter _ _ items (λ e in_it. ap not (other_key test key e.0 out_of_it in_it)))

-- the first of some classes are those that come first in them
pub of_classes-first_of : (test : ℕ → Bool) (bound : ℕ) (items : Items) → of_classes test (first_of test bound items) ≡ take bound (of_classes test items)
unfolding of_classes first_of
of_classes-first_of test zero [] = refl
of_classes-first_of test (suc bound) [] = refl
of_classes-first_of test zero (e ∷ items) = (elim (test (class_of e.0)) as (λ b. test (class_of e.0) ≡ b → of_classes test (cond b (first_of test zero items) (e ∷ first_of test zero items)) ≡ []) [
  | true ↦ λ h. of_classes-first_of test zero items
  | false ↦ λ h. rw h (of_classes-first_of test zero items)
]) refl
of_classes-first_of test (suc bound) (e ∷ items) = (elim (test (class_of e.0)) as (λ b. test (class_of e.0) ≡ b →
    cond b (e ∷ of_classes test (cond b (first_of test bound items) (first_of test (suc bound) items))) (of_classes test (cond b (first_of test bound items) (first_of test (suc bound) items)))
    ≡ take (suc bound) (cond b (e ∷ of_classes test items) (of_classes test items))) [
      | true ↦ λ h. ap (λ l. e ∷ l) (of_classes-first_of test bound items)
      | false ↦ λ h. of_classes-first_of test (suc bound) items
    ]) refl

-- the items of other classes stay
pub of_classes-first_of_other : (test other : ℕ → Bool) (bound : ℕ) (items : Items) → ((class : ℕ) → other class ≡ true → test class ≡ false) → of_classes other (first_of test bound items) ≡ of_classes other items
unfolding of_classes first_of
of_classes-first_of_other test other zero [] h = refl
of_classes-first_of_other test other (suc bound) [] h = refl
of_classes-first_of_other test other zero (e ∷ items) h = (elim (other (class_of e.0)) as (λ b. other (class_of e.0) ≡ b → of_classes other (cond (test (class_of e.0)) (first_of test zero items) (e ∷ first_of test zero items)) ≡ cond b (e ∷ of_classes other items) (of_classes other items)) [
  | true ↦ λ in_it. rw (h (class_of e.0) in_it, in_it) (ap (λ l. e ∷ l) (of_classes-first_of_other test other zero items h))
  | false ↦ λ out_of_it. (elim (test (class_of e.0)) as (λ b. of_classes other (cond b (first_of test zero items) (e ∷ first_of test zero items)) ≡ of_classes other items) [
    | true ↦ of_classes-first_of_other test other zero items h
    | false ↦ rw out_of_it (of_classes-first_of_other test other zero items h)
  ])
]) refl
of_classes-first_of_other test other (suc bound) (e ∷ items) h = (elim (other (class_of e.0)) as (λ b. other (class_of e.0) ≡ b →
    cond b (e ∷ of_classes other (cond (test (class_of e.0)) (first_of test bound items) (first_of test (suc bound) items))) (of_classes other (cond (test (class_of e.0)) (first_of test bound items) (first_of test (suc bound) items)))
    ≡ cond b (e ∷ of_classes other items) (of_classes other items)) [
      | true ↦ λ in_it. rw (h (class_of e.0) in_it) (ap (λ l. e ∷ l) (of_classes-first_of_other test other (suc bound) items h))
      | false ↦ λ out_of_it. (elim (test (class_of e.0)) as (λ b. of_classes other (cond b (first_of test bound items) (first_of test (suc bound) items)) ≡ of_classes other items) [
        | true ↦ of_classes-first_of_other test other bound items h
        | false ↦ of_classes-first_of_other test other (suc bound) items h
      ])
    ]) refl
