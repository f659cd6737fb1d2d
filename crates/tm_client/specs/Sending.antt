-- What a client keeps of a batch that it published.
use Rattle.std.specs.Prelude.{◌≡◌, ℕ, ◌+◌, ◌≤◌, ◌⊎◌, true, false, List, [], ◌∷◌, ◌++◌, slice_get, slice_set}
use Rattle.std.specs.declared.option.Option.TheVariants.{Some}
use Rattle.tm_batch.specs.declared.message.Request.{Request}
use Rattle.tm_batch.specs.declared.message.Request.TheVariants.{Bye}
use Rattle.tm_client.specs.declared.lane.Lane.{Lane}
use Rattle.tm_client.specs.declared.books.Books.{Books}
use Rattle.tm_client.specs.Listing.{held_count}

module _ {V O R T C D : Type 0} where
  -- b goes of a lane: the front of what waits, or a Bye where nothing waits or counts and the lane is closing
  abbrev pub Goes : List (Request V O R T) → Lane V C D O R T → Lane V C D O R T → Type 0
  Goes b lane becomes =
      ((lane.waits.items ≡ b ++ becomes.waits.items) × (becomes.said ≡ lane.said))
      ⊎ ((b ≡ Bye ∷ []) × (lane.waits.items ≡ []) × (becomes.waits.items ≡ []) × (lane.closing ≡ true) × (lane.counting ≡ 0) × (becomes.said ≡ true))

  -- the batch b went to trustee t, with room for so many gifts
  pub record HasGone (t : ℕ) (b : List (Request V O R T)) (room : ℕ) (lane becomes : Lane V C D O R T) (old new : Books V C D O R T) : Type 0 where
    pub of_lane : slice_get old.lanes.items t ≡ Some lane
    pub lanes : new.lanes.items ≡ slice_set old.lanes.items t becomes
    pub goes : Goes b lane becomes
    pub waits_room : becomes.waits.capacity ≡ lane.waits.capacity
    pub afters : becomes.afters ≡ lane.afters
    pub launched : becomes.launched ≡ lane.launched
    pub counting : becomes.counting ≡ lane.counting
    pub fetching : becomes.fetching ≡ false
    pub closing : becomes.closing ≡ lane.closing
    pub out : becomes.out ≡ true
    pub room_of : becomes.room ≡ room
    pub coming : new.coming ≡ old.coming + room
    pub fits : held_count old.held + (old.coming + room) ≤ old.most
    pub arrived : new.arrived ≡ old.arrived
    pub gifts : new.gifts ≡ old.gifts
    pub held : new.held ≡ old.held
    pub number : new.number ≡ old.number
    pub clients : new.clients ≡ old.clients
    pub most : new.most ≡ old.most
