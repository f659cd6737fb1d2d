-- Sums over the classes where one of them changes.
use Rattle.std.proofs.Common.{◌≡◌, ℕ, ◌+◌, ◌-◌, ◌<◌, ◌≤◌, ◌^◌, min, Bool, true, false, List, length, map, sum, refl, arith}
use Rattle.std.proofs.lemmas.List.Sums.{sum_by-set, sum-map, get_or-le-sum_by}
use Rattle.mc_model.specs.Class.{Class, new_class, stored_after}
use Rattle.mc_laws.specs.Classes.{class_at, with_class, stored_by}

-- the number of stores of all classes, where it isn't cut
stores : List Class → ℕ
stores classes = sum (map (λ s. s.stored) classes)

stored_by-stores : (classes : List Class) → stored_by classes ≡ min (stores classes) (2 ^ 64 - 1)
unfolding stores
stored_by-stores classes = refl

stores-with_class : (classes : List Class) (class : ℕ) (s : Class) → class < length classes → stores (with_class classes class s) + (class_at classes class).stored ≡ stores classes + s.stored
unfolding stores
stores-with_class classes class s lt =
    let stored : Class → ℕ = λ t. t.stored in
    rw (sum-map stored (with_class classes class s), sum-map stored classes) (sum_by-set stored classes class s (new_class class 0 0) lt)

stores_of_one : (classes : List Class) (class : ℕ) → class < length classes → (class_at classes class).stored ≤ stores classes
unfolding stores
stores_of_one classes class lt =
    let stored : Class → ℕ = λ t. t.stored in
    rw (sum-map stored classes) (get_or-le-sum_by stored classes class (new_class class 0 0) lt)

more_stored : (all more one new : ℕ) (is_store : Bool) → one ≤ all → more + one ≡ all + new → new ≡ stored_after one is_store → min more (2 ^ 64 - 1) ≡ stored_after (min all (2 ^ 64 - 1)) is_store
more_stored all more one new true part both is = omega arith
more_stored all more one new false part both is = omega arith

-- one class has a store more, or none
pub stored-with_class :
    (classes : List Class) (class : ℕ) (s : Class) (is_store : Bool) → class < length classes → s.stored ≡ stored_after (class_at classes class).stored is_store
    → stored_by (with_class classes class s) ≡ stored_after (stored_by classes) is_store
stored-with_class classes class s is_store lt is =
    rw (stored_by-stores (with_class classes class s), stored_by-stores classes)
    (more_stored (stores classes) (stores (with_class classes class s)) (class_at classes class).stored s.stored is_store (stores_of_one classes class lt) (stores-with_class classes class s lt) is)
