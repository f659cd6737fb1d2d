-- The parts of what a runtime may be built from.
use Rattle.std.specs.Prelude.{◌≢◌, ℕ, ◌+◌, ◌<◌, ◌≤◌, nat_eq, List, [], length, count_by}
use Rattle.std.specs.List.{AllByRecursion, IsDistinct}
use Rattle.tm_batch.specs.declared.limits.TheConstants.{MOST_CLIENTS, FEWEST_TRUSTEES, MOST_TRUSTEES, MOST_OBJECTS, MOST_TRUSTS}
use Rattle.tm_batch.specs.declared.config.Config.{Config}
use Rattle.tm_batch.specs.declared.config.First.{First}
use Rattle.tm_model.specs.Opening.{is_named, placed_on}

-- the numbers of a config are within their limits
pub record IsInRange (config : Config) : Type 0 where
  pub clients : (1 ≤ config.clients) × (config.clients ≤ MOST_CLIENTS)
  pub trustees : (FEWEST_TRUSTEES ≤ config.trustees) × (config.trustees ≤ MOST_TRUSTEES)
  pub objects : (1 ≤ config.objects) × (config.objects ≤ MOST_OBJECTS)
  pub trusts : (1 ≤ config.trusts) × (config.trusts ≤ MOST_TRUSTS)
  pub last_id : 1 ≤ config.last_id

module _ {V : Type 0} where
  -- an object is placed on a trustee, and has holders, each once, which are clients or trustees of a smaller number
  pub record IsWellPlaced (config : Config) (f : First V) : Type 0 where
    pub trustee : f.trustee < config.trustees
    pub held : f.holders ≢ []
    pub once : IsDistinct nat_eq f.holders
    pub below : AllByRecursion (λ h. h < config.clients + f.trustee) f.holders

  -- trustee t has room and ids for the objects that are placed on it
  abbrev pub HasRoomOn : Config → List (First V) → ℕ → Type 0
  HasRoomOn config first t = (length (placed_on t first) ≤ config.objects) × (length (placed_on t first) ≤ config.last_id)

  -- client c is not named more often than it may hold trusts
  abbrev pub IsFewFor : Config → List (First V) → ℕ → Type 0
  IsFewFor config first c = count_by (is_named c) first ≤ config.trusts
