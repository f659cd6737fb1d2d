-- Each item is one class's, so that the classes have as many items as the map that they are the parts of.
use Rattle.std.proofs.Common.{◌≡◌, ℕ, zero, suc, ◌+◌, ◌*◌, ◌-◌, ◌<◌, ◌≤◌, ◌^◌, min, cond, eqb, ltb, List, [], ◌∷◌, length, take, None, All, add-one, refl, sym, ap, ap₂, subst, ◌∙◌, inl, inr, arith, lt-ltb, le-ltb}
use Rattle.std.proofs.lemmas.Bool.{cases_order, eq-eqb, ne_eqb}
use Rattle.std.proofs.lemmas.List.{get_or_default, take_all}
use Rattle.std.proofs.lemmas.List.Sums.{sum_by-cons, sum_by_more, sum_by-le, sum-map, length-filter}
use Rattle.std.specs.List.{sum_by, count_by}
use Rattle.mc_item.specs.declared.limits.TheConstants.{MOST_ITEMS}
use Rattle.mc_item.specs.Classes.{class_of}
use Rattle.mc_model.specs.declared.item.Item.{Item}
use Rattle.mc_model.specs.Items.{Items, item_at, count_of, of_classes}
use Rattle.mc_model.specs.Class.{Class, new_class}
use Rattle.mc_model.proofs.ItemFacts.{filter_all}
use Rattle.mc_laws.specs.Classes.{class_at, held_by}
use Rattle.mc_laws.proofs.Stores.{class_below}

one_each : (class n : ℕ) → cond (ltb class (suc n)) 1 0 ≡ cond (ltb class n) 1 0 + cond (eqb class n) 1 0
one_each class n = elim (cases_order class n) [
  | inl same ↦ rw (lt-ltb class (suc n) (omega arith), le-ltb class n (omega arith), eq-eqb class n same) refl
  | inr (inl below) ↦ rw (lt-ltb class (suc n) (omega arith), lt-ltb class n below, ne_eqb class n (λ e. absurd (omega arith))) refl
  | inr (inr above) ↦ rw (le-ltb class (suc n) above, le-ltb class n (omega arith), ne_eqb class n (λ e. absurd (omega arith))) refl
]

entries_each : (n : ℕ) (es : List (List ℕ × Item)) → count_by (λ e. ltb (class_of e.0) (suc n)) es ≡ count_by (λ e. ltb (class_of e.0) n) es + count_by (λ e. eqb (class_of e.0) n) es
entries_each n [] = refl
entries_each n (e ∷ es) =
    let below : List ℕ × Item → ℕ = λ x. cond (ltb (class_of x.0) n) 1 0 in
    let upto : List ℕ × Item → ℕ = λ x. cond (ltb (class_of x.0) (suc n)) 1 0 in
    let here : List ℕ × Item → ℕ = λ x. cond (eqb (class_of x.0) n) 1 0 in
    omega (arith, sum_by-cons upto e es, sum_by-cons below e es, sum_by-cons here e es, one_each (class_of e.0) n, entries_each n es)

-- the items of the classes below one
below : ℕ → Items → Items
below n items = of_classes (λ k. ltb k n) items

below_more : (n : ℕ) (items : Items) → count_of (below (suc n) items) ≡ count_of (below n items) + count_of (of_classes (λ k. eqb k n) items)
unfolding below of_classes
below_more n items =
    rw (length-filter (λ (e : List ℕ × Item). ltb (class_of e.0) (suc n)) items, length-filter (λ (e : List ℕ × Item). ltb (class_of e.0) n) items, length-filter (λ (e : List ℕ × Item). eqb (class_of e.0) n) items)
    (entries_each n items)

none_passes : (es : List (List ℕ × Item)) → count_by (λ e. ltb (class_of e.0) 0) es ≡ 0
none_passes [] = refl
none_passes (e ∷ es) =
    let below : List ℕ × Item → ℕ = λ x. cond (ltb (class_of x.0) 0) 1 0 in
    let one : below e ≡ 0 = rw (le-ltb (class_of e.0) 0 (omega arith)) refl in
    omega (arith, sum_by-cons below e es, one, none_passes es)

below_none : (items : Items) → count_of (below 0 items) ≡ 0
unfolding below of_classes
below_none items = length-filter (λ (e : List ℕ × Item). ltb (class_of e.0) 0) items ∙ none_passes items

below_all : (items : Items) → below 64 items ≡ items
unfolding below of_classes
below_all items = filter_all _ items (λ e. lt-ltb (class_of e.0) 64 (class_below e.0))

-- how many items a class has
count_class : Class → ℕ
count_class s = count_of s.items

count_part :
    (items : Items) (classes : List Class) → ((class : ℕ) → class < 64 → (class_at classes class).items ≡ of_classes (λ k. eqb k class) items) → (class : ℕ) → class < 64
    → count_class (class_at classes class) ≡ count_of (of_classes (λ k. eqb k class) items)
unfolding count_class
count_part items classes parts class lt = ap count_of (parts class lt)

-- the first n classes have the items of the classes below n
first_counts :
    (items : Items) (classes : List Class) → length classes ≡ 64 → ((class : ℕ) → class < 64 → (class_at classes class).items ≡ of_classes (λ k. eqb k class) items) → (n : ℕ) → n ≤ 64
    → sum_by count_class (take n classes) ≡ count_of (below n items)
first_counts items classes count parts zero le = sym (below_none items)
first_counts items classes count parts (suc n) le =
    rw (← add-one) (sum_by_more count_class classes n (new_class n 0 0) (omega (arith, count)))
    ∙ ap₂ ◌+◌ (first_counts items classes count parts n (omega arith)) (count_part items classes parts n le)
    ∙ sym (below_more n items)

-- all classes have the items of the map
all_counts : (items : Items) (classes : List Class) → length classes ≡ 64 → ((class : ℕ) → class < 64 → (class_at classes class).items ≡ of_classes (λ k. eqb k class) items)
    → sum_by count_class classes ≡ count_of items
all_counts items classes count parts =
    ap (sum_by count_class) (sym (take_all 64 classes (omega (arith, count)))) ∙ first_counts items classes count parts 64 (omega arith) ∙ ap count_of (below_all items)

-- no class has as many items that the sum would be cut
few_counts : (classes : List Class) → length classes ≡ 64 → ((class : ℕ) → class < 64 → count_of (class_at classes class).items ≤ MOST_ITEMS) → sum_by count_class classes ≤ 64 * MOST_ITEMS
unfolding count_class
few_counts classes count few =
    let each : All (λ s. count_class s ≤ MOST_ITEMS) classes = λ k d lt.
    subst (λ s. count_of s.items ≤ MOST_ITEMS) (get_or_default classes k (new_class k 0 0) d lt) (few k (omega (arith, count))) in
    subst (λ n. sum_by count_class classes ≤ n * MOST_ITEMS) count (sum_by-le count_class MOST_ITEMS classes each)

held_by-sum : (classes : List Class) → held_by classes ≡ min (sum_by count_class classes) (2 ^ 64 - 1)
unfolding count_class
held_by-sum classes = ap (λ n. min n (2 ^ 64 - 1)) (sum-map (λ s. count_of s.items) classes)

not_cut : (n : ℕ) → n ≤ 64 * MOST_ITEMS → min n (2 ^ 64 - 1) ≡ n
not_cut n le = omega arith

-- where each class has its part of a map, and no class too many items, they hold as many as the map has
pub held_by-items :
    (items : Items) (classes : List Class) → length classes ≡ 64 → ((class : ℕ) → class < 64 → (class_at classes class).items ≡ of_classes (λ k. eqb k class) items)
    → ((class : ℕ) → class < 64 → count_of (class_at classes class).items ≤ MOST_ITEMS) → held_by classes ≡ count_of items
held_by-items items classes count parts few =
    held_by-sum classes ∙ not_cut (sum_by count_class classes) (few_counts classes count few) ∙ all_counts items classes count parts
