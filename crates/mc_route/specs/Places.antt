-- Where the store's objects stand at first, and who holds them.
use Rattle.std.specs.Prelude.{ℕ, ◌+◌, ◌-◌, ◌/◌, ◌%◌, List, [], ◌∷◌, ◌++◌, map}
use Rattle.std.specs.List.{range_with_len}
use Rattle.tm_seq.specs.declared.sum.Sum.{Sum}
use Rattle.tm_seq.specs.declared.sum.Sum.TheVariants as sum
use Rattle.tm_batch.specs.declared.config.First.{First}
use Rattle.mc_item.specs.declared.limits.TheConstants.{CLASSES}
use Rattle.mc_model.specs.Class.{Class, new_class}
use Rattle.mc_route.specs.declared.desk.Desk.{Desk}

-- the trustee of a class, where there are so many trustees: the classes go round all but trustee 0
abbrev pub trustee_of : ℕ → ℕ → ℕ
trustee_of class trustees = 1 + class % (trustees - 1)

-- which of the classes of its trustee a class is, from 0
abbrev pub index_of : ℕ → ℕ → ℕ
index_of class trustees = class / (trustees - 1)

-- a class or the desk, as a value
abbrev pub StoreValue : Type 0
StoreValue = Sum Class Desk

-- a class with no items, of at most so many: all clients hold it, and trustee 0, whose place is behind theirs
abbrev pub first_shard : ℕ → ℕ → ℕ → ℕ → First StoreValue
first_shard clients trustees bound class = record {
  trustee = trustee_of class trustees;
  value = sum.First (new_class class 0 bound);
  holders = range_with_len 0 (clients + 1);
}

-- the desk with no launch finished: all clients hold it
abbrev pub first_desk : ℕ → First StoreValue
first_desk clients = record {
  trustee = 0;
  value = sum.Second (record { done = 0 });
  holders = range_with_len 0 clients;
}

-- the classes in the order of their numbers, and then the desk
abbrev pub store_first : ℕ → ℕ → ℕ → List (First StoreValue)
store_first clients trustees bound = map (first_shard clients trustees bound) (range_with_len 0 CLASSES) ++ first_desk clients ∷ []
