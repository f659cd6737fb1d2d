-- What `fetch` and `close` note at a trustee.
use Rattle.std.specs.Prelude.{◌≡◌, ℕ, Bool, slice_get, slice_set}
use Rattle.std.specs.declared.option.Option.TheVariants.{Some}
use Rattle.tm_client.specs.declared.lane.Lane.{Lane}
use Rattle.tm_client.specs.declared.books.Books.{Books}
use Rattle.tm_client.specs.Asking.{KeepsRest}

module _ {V C D O R T : Type 0} where
  -- a lane with other notes on whether `fetch` and `close` were called
  abbrev pub marked : Bool → Bool → Lane V C D O R T → Lane V C D O R T
  marked fetching closing lane = record {
    side = lane.side;
    waits = lane.waits;
    afters = lane.afters;
    launched = lane.launched;
    out = lane.out;
    room = lane.room;
    counting = lane.counting;
    fetching = fetching;
    closing = closing;
    said = lane.said;
  }

  -- the notes of the lane of trustee t became what `fetching` and `closing` say, and nothing else changed
  pub record HasMarked (t : ℕ) (fetching closing : Bool → Bool) (old new : Books V C D O R T) : Type 0 where
    pub lane : Lane V C D O R T
    pub of_lane : slice_get old.lanes.items t ≡ Some lane
    pub lanes : new.lanes.items ≡ slice_set old.lanes.items t (marked (fetching lane.fetching) (closing lane.closing) lane)
    pub coming : new.coming ≡ old.coming
    pub rest : KeepsRest old new
