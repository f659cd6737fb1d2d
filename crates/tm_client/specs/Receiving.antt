-- What a client keeps of what came of a trustee.
use Rattle.std.specs.Prelude.{◌≡◌, ℕ, nat_eq, ◌+◌, ◌≤◌, false, ◌++◌, length, min, drop, slice_get, slice_set}
use Rattle.std.specs.List.{IsDistinct}
use Rattle.std.specs.declared.option.Option.TheVariants.{Some}
use Rattle.tm_batch.specs.declared.message.AnswerBatch.{AnswerBatch}
use Rattle.tm_client.specs.declared.lane.Lane.{Lane}
use Rattle.tm_client.specs.declared.books.Books.{Books}
use Rattle.tm_client.specs.Launches.{ended_tickets, tickets_of, launches_left, arrivals_of, finished_of, with_told}
use Rattle.tm_client.specs.Turns.{gifts_from}

module _ {V O R T C D : Type 0} where
  -- there is room for the answers a: for the arrivals of what was out and of the launches, for the launches whose tickets come, and for the
  -- gifts, which are no more than the batch had room for. A launch has a ticket of its own, and a completion comes once
  pub record MayReceive (a : AnswerBatch V O R T) (lane : Lane V C D O R T) (books : Books V C D O R T) : Type 0 where
    pub arrived : length books.arrived.items + length lane.launched.items + min (length a.answers.items) (length lane.afters.items) ≤ books.arrived.capacity
    pub launched : length lane.launched.items + min (length a.answers.items) (length lane.afters.items) ≤ lane.launched.capacity
    pub once : IsDistinct nat_eq (tickets_of (with_told lane a))
    pub ended : IsDistinct nat_eq (ended_tickets a.completions.items)
    pub gifts : length books.gifts.items + length a.gifts.items ≤ books.gifts.capacity
    pub fit : length a.gifts.items ≤ lane.room
    pub coming : lane.room ≤ books.coming

  -- the answers a of trustee t were taken in: each continuation of what was out arrives with the answer to its own request, behind what
  -- arrived before, or waits for the completion of its launch; then those arrive whose completions came, and so do the gifts
  pub record HasReceived (t : ℕ) (a : AnswerBatch V O R T) (lane becomes : Lane V C D O R T) (old new : Books V C D O R T) : Type 0 where
    pub of_lane : slice_get old.lanes.items t ≡ Some lane
    pub lanes : new.lanes.items ≡ slice_set old.lanes.items t becomes
    pub waits : becomes.waits ≡ lane.waits
    pub afters : becomes.afters.items ≡ drop (length a.answers.items) lane.afters.items
    pub afters_room : becomes.afters.capacity ≡ lane.afters.capacity
    pub counting : becomes.counting ≡ lane.counting
    pub fetching : becomes.fetching ≡ lane.fetching
    pub closing : becomes.closing ≡ lane.closing
    pub said : becomes.said ≡ lane.said
    pub out : becomes.out ≡ false
    pub room : becomes.room ≡ 0
    pub arrived : new.arrived.items
        ≡ old.arrived.items ++ (arrivals_of t lane.afters.items a.answers.items ++ finished_of t (with_told lane a) a.completions.items)
    pub launched : becomes.launched.items ≡ launches_left (ended_tickets a.completions.items) (with_told lane a)
    pub launched_room : becomes.launched.capacity ≡ lane.launched.capacity
    pub arrived_room : new.arrived.capacity ≡ old.arrived.capacity
    pub gifts : new.gifts.items ≡ old.gifts.items ++ gifts_from t old.number a.gifts.items
    pub gifts_room : new.gifts.capacity ≡ old.gifts.capacity
    pub coming : new.coming + lane.room ≡ old.coming + length a.gifts.items
    pub held : new.held ≡ old.held
    pub number : new.number ≡ old.number
    pub clients : new.clients ≡ old.clients
    pub most : new.most ≡ old.most

  -- the answers a of trustee t were taken in, and the side there stays
  pub record HasTakenIn (t : ℕ) (a : AnswerBatch V O R T) (old new : Books V C D O R T) : Type 0 where
    pub lane : Lane V C D O R T
    pub becomes : Lane V C D O R T
    pub side : becomes.side ≡ lane.side
    pub received : HasReceived t a lane becomes old new
