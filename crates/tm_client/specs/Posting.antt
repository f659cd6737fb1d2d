-- What a publish leaves of a lane and its table.
use Rattle.std.specs.Prelude.{◌≡◌, ℕ, true, false, length}
use Rattle.tm_batch.specs.declared.batch.Batch.{Batch}
use Rattle.tm_pair.specs.Calls.{Publishes}
use Rattle.tm_pair.specs.Theory.{Theory, KeepsSides}
use Rattle.tm_pair.specs.declared.moves.Move.TheVariants.{Publish}
use Rattle.tm_client.specs.declared.lane.Lane.{Lane}
use Rattle.tm_client.specs.Due.{Leaves}

module _ {V O R T C D : Type 0} where
  -- a batch is out, and the rest of the lane but its side stays
  pub record HasPosted (room : ℕ) (lane becomes : Lane V C D O R T) : Type 0 where
    pub waits : becomes.waits ≡ lane.waits
    pub afters : becomes.afters ≡ lane.afters
    pub launched : becomes.launched ≡ lane.launched
    pub counting : becomes.counting ≡ lane.counting
    pub fetching : becomes.fetching ≡ false
    pub closing : becomes.closing ≡ lane.closing
    pub said : becomes.said ≡ lane.said
    pub out : becomes.out ≡ true
    pub room_of : becomes.room ≡ room

module _ {V O R T C D Table Owner : Type 0} (theory : Theory V O R T Table D Owner) where
  -- what was due went, with room for so many gifts: n requests
  pub record PostsDue (room n : ℕ) (was now : Table) (lane becomes : Lane V C D O R T) : Type 0 where
    pub batch : Batch V O R T
    pub leaves : Leaves batch.requests.items lane becomes
    pub room_is : batch.room ≡ room
    pub count : n ≡ length batch.requests.items
    pub publishes : Publishes batch.requests.items room (theory.client_view lane.side) (theory.client_view becomes.side)
    pub did : theory.Did (Publish (theory.client_view lane.side).place batch) was now
    pub keeps : KeepsSides theory was now lane.side becomes.side
    pub waits_room : becomes.waits.capacity ≡ lane.waits.capacity
    pub afters : becomes.afters ≡ lane.afters
    pub launched : becomes.launched ≡ lane.launched
    pub counting : becomes.counting ≡ lane.counting
    pub fetching : becomes.fetching ≡ false
    pub closing : becomes.closing ≡ lane.closing
    pub out : becomes.out ≡ true
    pub room_of : becomes.room ≡ room
