-- What a runtime may be built from, and the state in which a trustee opens.
use Rattle.std.specs.Prelude.{◌≢◌, ℕ, ◌+◌, ◌<◌, ◌≤◌, ◌==◌, nat_eq, nat_lt, Bool, cond, List, [], ◌∷◌, length, map, filter, count_by}
use Rattle.std.specs.List.{AllByRecursion, IsDistinct, list_any, range_with_len}
use Rattle.std.proofs.Math.ListN.{replicate}
use Rattle.tm_batch.specs.declared.limits.TheConstants.{MOST_CLIENTS, FEWEST_TRUSTEES, MOST_TRUSTEES, MOST_OBJECTS, MOST_TRUSTS}
use Rattle.tm_batch.specs.declared.config.Config.{Config}
use Rattle.tm_batch.specs.declared.config.First.{First}
use Rattle.tm_model.specs.State.{Object, State, no_place}

module _ {V : Type 0} where
  -- whether an object of the build names a place as a holder
  abbrev pub is_named : ℕ → First V → Bool
  is_named c f = list_any (λ h. h == c) f.holders

  -- the objects of the build that are placed on a trustee, in order
  abbrev pub placed_on : ℕ → List (First V) → List (First V)
  placed_on t first = filter (λ f. f.trustee == t) first

  -- the numbers, from `id` on, of the objects that name a place
  abbrev pub ids_naming : ℕ → ℕ → List (First V) → List ℕ
  ids_naming c id [] = []
  ids_naming c id (f ∷ fs) = cond (is_named c f) (id ∷ ids_naming c (id + 1) fs) (ids_naming c (id + 1) fs)

  -- the ids at trustee u of the objects that place c holds at first
  abbrev pub ids_at : ℕ → ℕ → List (First V) → List ℕ
  ids_at u c first = ids_naming c 1 (placed_on u first)

  -- a runtime may be built from a config and a list of objects
  pub record IsBuildable (config : Config) (first : List (First V)) : Type 0 where
    pub clients : (1 ≤ config.clients) × (config.clients ≤ MOST_CLIENTS)
    pub trustees : (FEWEST_TRUSTEES ≤ config.trustees) × (config.trustees ≤ MOST_TRUSTEES)
    pub objects : (1 ≤ config.objects) × (config.objects ≤ MOST_OBJECTS)
    pub trusts : (1 ≤ config.trusts) × (config.trusts ≤ MOST_TRUSTS)
    pub last_id : 1 ≤ config.last_id
    -- each object is placed on a trustee
    pub trustee : AllByRecursion (λ f. f.trustee < config.trustees) first
    -- each has holders, none of them twice
    pub held : AllByRecursion (λ f. f.holders ≢ []) first
    pub once : AllByRecursion (λ f. IsDistinct nat_eq f.holders) first
    -- each holder is a client, or a trustee of a smaller number than the object's
    pub below : AllByRecursion (λ f. AllByRecursion (λ h. h < config.clients + f.trustee) f.holders) first
    -- no trustee begins with more objects than may be live or than there are ids
    pub room : (t : ℕ) → length (placed_on t first) ≤ config.objects
    pub ids : (t : ℕ) → length (placed_on t first) ≤ config.last_id
    -- no client begins with more trusts than it may hold
    pub named : (c : ℕ) → c < config.clients → count_by (is_named c) first ≤ config.trusts

-- the objects of the build as live objects, with ids from `id` on and one hold of each holder
abbrev pub opened : {V T : Type 0} → ℕ → ℕ → List (First V) → List (Object V T)
opened places id [] = []
opened places id (f ∷ fs) =
    record { id = id; value = f.value; holds = map (λ c. cond (is_named c f) 1 0) (range_with_len 0 places); works = [] } ∷ opened places (id + 1) fs

-- the state in which trustee `number` opens, of a runtime built from a config and a list of objects
abbrev pub opening_of : {V O R T : Type 0} → ℕ → Config → List (First V) → State V O R T
opening_of number config first = record {
  setup = record {
    config = config;
    number = number;
    above = map (λ u. cond (nat_lt number u) (ids_at u (config.clients + number) first) []) (range_with_len 0 config.trustees);
  };
  next_id = length (placed_on number first) + 1;
  next_ticket = 1;
  places = replicate (config.clients + number) no_place;
  live = opened (config.clients + number) 1 (placed_on number first);
}
