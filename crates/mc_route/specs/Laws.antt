-- That what is asked of classes is what the commands mean, and that it is asked where they stand.
use Rattle.std.specs.Prelude.{◌≡◌, ℕ, ◌<◌, ◌≤◌, ◌==◌, slice_get, List, Some}
use Rattle.std.specs.List.{filter}
use Rattle.tm_batch.specs.declared.config.First.{First}
use Rattle.tm_batch.specs.declared.limits.TheConstants.{FEWEST_TRUSTEES}
use Rattle.mc_item.specs.declared.limits.TheConstants.{CLASSES}
use Rattle.mc_model.specs.Rows.{KeyOp}
use Rattle.mc_model.specs.Class.{Class, key_step}
use Rattle.mc_shard.specs.Shard.{shard_step}
use Rattle.mc_route.specs.Places.{StoreValue, trustee_of, index_of, first_shard, store_first}
use Rattle.mc_route.specs.Plans.{shard_op}

-- what a class does that is asked a part is what the part's operation does there
abbrev pub PartsAreSteps : Type 0
PartsAreSteps = (s : Class) (key : List ℕ) (op : KeyOp) (moment : ℕ) → shard_step s (shard_op key op moment) ≡ key_step s key op moment

-- the objects that stand on a trustee, in order
abbrev pub standing_on : ℕ → List (First StoreValue) → List (First StoreValue)
standing_on trustee objects = filter (λ f. f.trustee == trustee) objects

-- among the objects of its trustee, each class is the one at its index
abbrev pub ClassesAreFound : Type 0
ClassesAreFound =
    (clients trustees bound class : ℕ) → FEWEST_TRUSTEES ≤ trustees → class < CLASSES
    → slice_get (standing_on (trustee_of class trustees) (store_first clients trustees bound)) (index_of class trustees) ≡ Some (first_shard clients trustees bound class)
