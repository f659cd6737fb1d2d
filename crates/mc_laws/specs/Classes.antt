-- The 64 classes, each with a state of its own, in the order of their numbers.
use Rattle.std.specs.Prelude.{ℕ, List, ◌++◌, map, take, drop, sum, min, ◌-◌, ◌^◌, slice_index_or, slice_set}
use Rattle.std.specs.List.{range_with_len}
use Rattle.mc_item.specs.declared.limits.TheConstants.{CLASSES}
use Rattle.mc_model.specs.Items.{count_of}
use Rattle.mc_model.specs.Class.{Class, new_class}

-- the classes before any operation, where each holds at most so many items
abbrev pub new_classes : ℕ → List Class
new_classes bound = map (λ class. new_class class 0 bound) (range_with_len 0 CLASSES)

-- the class of a number
abbrev pub class_at : List Class → ℕ → Class
class_at classes class = slice_index_or classes class (new_class class 0 0)

-- the classes, but that the one of a number is this
abbrev pub with_class : List Class → ℕ → Class → List Class
with_class classes class state = slice_set classes class state

-- the first n classes changed, and the others as they were
abbrev pub first_changed : ℕ → (Class → Class) → List Class → List Class
first_changed n change classes = map change (take n classes) ++ drop n classes

-- a sum that stands still at 2 ^ 64 - 1
abbrev pub sum_of : (Class → ℕ) → List Class → ℕ
sum_of count classes = min (sum (map count classes)) (2 ^ 64 - 1)

-- how many items all classes have
abbrev pub held_by : List Class → ℕ
held_by classes = sum_of (λ s. count_of s.items) classes

-- how many stores all classes had
abbrev pub stored_by : List Class → ℕ
stored_by classes = sum_of (λ s. s.stored) classes
