-- What is due at a trustee where nothing is out.
use Rattle.std.specs.Prelude.{◌≡◌, ◌≢◌, ◌⊎◌, true, false, List, [], ◌∷◌, take, drop}
use Rattle.tm_batch.specs.declared.limits.TheConstants.{MOST_REQUESTS}
use Rattle.tm_batch.specs.declared.message.Request.{Request}
use Rattle.tm_batch.specs.declared.message.Request.TheVariants.{Bye}
use Rattle.tm_client.specs.declared.lane.Lane.{Lane}

module _ {V O R T C D : Type 0} where
  -- requests wait; else a Bye is due; else an empty batch is
  abbrev pub WaitsDue : Lane V C D O R T → Type 0
  WaitsDue lane = lane.waits.items ≢ []

  abbrev pub ByeDue : Lane V C D O R T → Type 0
  ByeDue lane = (lane.waits.items ≡ []) × (lane.closing ≡ true) × (lane.said ≡ false) × (lane.counting ≡ 0)

  abbrev pub FetchDue : Lane V C D O R T → Type 0
  FetchDue lane = (lane.waits.items ≡ []) × (¬ (ByeDue lane)) × (lane.said ≡ false) × ((lane.fetching ≡ true) ⊎ (lane.launched.items ≢ []))

  -- nothing is due
  abbrev pub NothingDue : Lane V C D O R T → Type 0
  NothingDue lane = (lane.waits.items ≡ []) × (¬ (ByeDue lane)) × (¬ (FetchDue lane))

  -- b is due, and leaves the lane
  abbrev pub Leaves : List (Request V O R T) → Lane V C D O R T → Lane V C D O R T → Type 0
  Leaves b lane becomes =
      (WaitsDue lane × (b ≡ take MOST_REQUESTS lane.waits.items) × (becomes.waits.items ≡ drop MOST_REQUESTS lane.waits.items) × (becomes.said ≡ lane.said))
      ⊎ ((ByeDue lane × (b ≡ Bye ∷ []) × (becomes.waits.items ≡ []) × (becomes.said ≡ true))
      ⊎ (FetchDue lane × (b ≡ []) × (becomes.waits.items ≡ []) × (becomes.said ≡ lane.said)))

  -- what was due left the lane, and the rest of it stays
  pub record HasLeft (b : List (Request V O R T)) (lane becomes : Lane V C D O R T) : Type 0 where
    pub leaves : Leaves b lane becomes
    pub side : becomes.side ≡ lane.side
    pub waits_room : becomes.waits.capacity ≡ lane.waits.capacity
    pub afters : becomes.afters ≡ lane.afters
    pub launched : becomes.launched ≡ lane.launched
    pub counting : becomes.counting ≡ lane.counting
    pub fetching : becomes.fetching ≡ lane.fetching
    pub closing : becomes.closing ≡ lane.closing
    pub out : becomes.out ≡ lane.out
    pub room : becomes.room ≡ lane.room
