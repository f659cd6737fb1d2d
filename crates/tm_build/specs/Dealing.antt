-- The objects of the build by their trustees.
use Rattle.std.specs.Prelude.{◌≡◌, ℕ, ◌<◌, List, [], length, slice_index_or}
use Rattle.tm_batch.specs.declared.config.First.{First}
use Rattle.tm_model.specs.Opening.{placed_on}

-- there is one list for each of so many trustees, in order, which has the objects that a list places on it, in the list's order
pub record AreSplit {V : Type 0} (trustees : ℕ) (first : List (First V)) (lists : List (List (First V))) : Type 0 where
  pub count : length lists ≡ trustees
  pub each : (t : ℕ) → t < trustees → slice_index_or lists t [] ≡ placed_on t first
