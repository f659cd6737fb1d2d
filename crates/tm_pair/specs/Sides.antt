-- What holds of a side of a table between any two of its calls.
use Rattle.std.specs.Prelude.{◌≡◌, ℕ, ◌+◌, ◌<◌, ◌≤◌, List, ◌++◌, length}
use Rattle.std.specs.declared.option.Option.{Option}
use Rattle.std.specs.declared.option.Option.TheVariants.{None, Some}
use Rattle.tm_seq.specs.Kind.{Kind}
use Rattle.tm_batch.specs.declared.limits.TheConstants.{MOST_REQUESTS, MOST_ROOM, WINDOW}
use Rattle.tm_batch.specs.declared.message.Request.{Request}
use Rattle.tm_model.specs.declared.entry.Entry.{Entry}
use Rattle.tm_model.specs.State.{State, place_count}
use Rattle.tm_model.specs.Legal.{IsLegal}
use Rattle.tm_model.specs.GoodSlots.{IsCutAt, IsSettled}
use Rattle.tm_model.specs.Ran.{mark_of, ran}
use Rattle.tm_model.specs.Batches.{batches}
use Rattle.tm_model.specs.Holds.{launches_in, gave, ended_in, came}
use Rattle.tm_model.specs.Laws.{IsOpening, IsPromised}
use Rattle.tm_pair.specs.Views.{BatchView, ClientView, TrusteeView, hand_of}

module _ {V O R T : Type 0} where
  -- what was sent was run, but for the batch that is out
  abbrev pub HasRun : Option (BatchView V O R T) → List (Request V O R T) → List (Request V O R T) → Type 0
  HasRun None sent run = sent ≡ run
  HasRun (Some batch) sent run = (sent ≡ run ++ batch.requests) × (length batch.requests ≤ MOST_REQUESTS) × (batch.room ≤ MOST_ROOM)

  -- a client's side of a table that opened in this state
  pub record IsGoodClient (kind : Kind V O R T) (opening : State V O R T) (view : ClientView V O R T) : Type 0 where
    pub opens : IsOpening opening
    -- its place is one of the table
    pub in_range : view.place < place_count opening.setup
    -- the log that it has seen is legal, and what left for its place by it is what the side got
    pub is_legal : IsLegal kind opening view.seen
    pub leaves : batches kind opening view.place view.seen ≡ view.got
    -- it ends with the leaving of the last of what the side got, or is empty where that is nothing
    pub cut : IsCutAt mark_of (batches kind opening) (IsLegal kind opening) view.place view.got view.seen
    -- all answers to the requests that it ran for the place have left
    pub settled : IsSettled mark_of view.place view.seen
    -- it ran for the place exactly what the side sent, but for the batch that is out
    pub runs : HasRun view.out view.sent (ran view.place view.seen)
    -- the side gave away no more holds than came to it, and at most `WINDOW` of its launches have not ended
    pub enough : (id : ℕ) → gave id view.sent ≤ came opening view.place view.sent view.got id
    pub window : launches_in view.sent ≤ WINDOW + ended_in view.got

  -- a batch of place c is in hand behind a log
  pub record IsGoodHand (kind : Kind V O R T) (opening : State V O R T) (log : List (Entry V O R T)) (c : ℕ) (hand : BatchView V O R T) : Type 0 where
    pub most : length hand.requests ≤ MOST_REQUESTS
    pub most_gifts : hand.room ≤ MOST_ROOM
    pub promised : IsPromised kind opening log c hand.requests

  -- the trustee's side of a table that opened in this state
  pub record IsGoodTrustee (kind : Kind V O R T) (opening : State V O R T) (view : TrusteeView V O R T) : Type 0 where
    pub opens : IsOpening opening
    pub is_legal : IsLegal kind opening view.log
    -- it has a hand and looks for each place of the table
    pub hands : length view.hands ≡ place_count opening.setup
    pub looks : length view.looks ≡ place_count opening.setup
    -- what is known of each batch in hand
    pub in_hand : (c : ℕ) (hand : BatchView V O R T) → hand_of view c ≡ Some hand → IsGoodHand kind opening view.log c hand
    -- all answers to requests that were run have left
    pub settled : (c : ℕ) → c < place_count opening.setup → IsSettled mark_of c view.log
