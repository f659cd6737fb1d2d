-- What a turn of a client does.
use Rattle.std.specs.Prelude.{◌≡◌, ◌≢◌, ℕ, nat_eq, ◌+◌, ◌-◌, ◌≤◌, ◌⊎◌, true, false, min, List, [], ◌∷◌, ◌++◌, length, map, take, drop, slice_get, slice_set}
use Rattle.std.specs.List.{AllByRecursion, AllZip, IsDistinct, Contains}
use Rattle.std.specs.declared.option.Option.TheVariants.{None, Some}
use Rattle.tm_seq.specs.Kind.{Kind}
use Rattle.tm_batch.specs.declared.limits.TheConstants.{MOST_REQUESTS, MOST_ROOM}
use Rattle.tm_batch.specs.declared.batch.Batch.{Batch}
use Rattle.tm_batch.specs.declared.message.Name.{Name}
use Rattle.tm_batch.specs.declared.message.Request.{Request}
use Rattle.tm_batch.specs.declared.message.Request.TheVariants.{Bye}
use Rattle.tm_batch.specs.declared.message.AnswerBatch.{AnswerBatch}
use Rattle.tm_model.specs.State.{State, IsHeld}
use Rattle.tm_model.specs.Serve.{state_after}
use Rattle.tm_model.specs.Legal.{IsLegal}
use Rattle.tm_model.specs.Lists.{IsPrefix}
use Rattle.tm_model.specs.Ran.{ran, answered}
use Rattle.tm_model.specs.Holds.{has_bye, answers_in}
use Rattle.tm_model.specs.Fits.{Fits}
use Rattle.tm_pair.specs.Calls.{Publishes, IsPending, Gets}
use Rattle.tm_pair.specs.Theory.{Theory, KeepsSides}
use Rattle.tm_pair.specs.declared.moves.Move.TheVariants.{Publish, Collect}
use Rattle.tm_client.specs.declared.lane.Lane.{Lane}
use Rattle.tm_client.specs.declared.trust.Trust.{Trust}
use Rattle.tm_client.specs.declared.answers.Turn.{Turn}
use Rattle.tm_client.specs.declared.answers.Turn.TheVariants.{Sent, Pending, Got, Idle}
use Rattle.tm_client.specs.declared.books.Books.{Books}
use Rattle.tm_client.specs.Lanes.{out_requests}
use Rattle.tm_client.specs.Launches.{ended_tickets, tickets_of, launches_left, arrivals_of, finished_of, with_told}
use Rattle.tm_client.specs.Listing.{listed, held_count}

-- the trusts that come as gifts of trustee t to client c
abbrev pub gifts_from : ℕ → ℕ → List Name → List Trust
gifts_from t c names = map (λ n. record { trustee = t; name = n; client = c; at = 0 }) names

module _ {V O R T C D Table Owner : Type 0} (theory : Theory V O R T Table D Owner) where
  -- a turn at trustee t changed one lane, and of the rest what it says
  pub record Turns (t : ℕ) (lane becomes : Lane V C D O R T) (old new : Books V C D O R T) : Type 0 where
    pub of_lane : slice_get old.lanes.items t ≡ Some lane
    pub lanes : new.lanes.items ≡ slice_set old.lanes.items t becomes
    pub closing : becomes.closing ≡ lane.closing
    pub number : new.number ≡ old.number
    pub clients : new.clients ≡ old.clients
    pub most : new.most ≡ old.most
    pub held : new.held ≡ old.held

  -- it got answers: each continuation of what was out arrives with the answer to its own request, or waits where that is the ticket of a
  -- launch; then each that waits for a completion which came arrives with it
  pub record HasGot (kind : Kind V O R T) (t n : ℕ) (was now : Table) (lane becomes : Lane V C D O R T) (old new : Books V C D O R T) : Type 0 where
    pub answers : AnswerBatch V O R T
    pub gets : Gets answers (theory.client_view lane.side) (theory.client_view becomes.side)
    pub did : theory.Did (Collect (theory.client_view lane.side).place (Some answers)) was now
    pub count : n ≡ length answers.answers.items + length answers.gifts.items + length answers.completions.items
    pub arrived : new.arrived.items
        ≡ old.arrived.items ++ (arrivals_of t lane.afters.items answers.answers.items ++ finished_of t (with_told lane answers) answers.completions.items)
    pub launched : becomes.launched.items ≡ launches_left (ended_tickets answers.completions.items) (with_told lane answers)
    pub gifts : new.gifts.items ≡ old.gifts.items ++ gifts_from t old.number answers.gifts.items
    pub waits : becomes.waits ≡ lane.waits
    pub afters : becomes.afters.items ≡ drop (length answers.answers.items) lane.afters.items
    pub counting : becomes.counting ≡ lane.counting
    pub fetching : becomes.fetching ≡ lane.fetching
    pub said : becomes.said ≡ lane.said
    -- each answer is one to the request of its position
    pub fits : AllZip Fits (out_requests (theory.client_view lane.side).out) answers.answers.items
    -- a launch has a ticket of its own, and each completion is that of a launch which lacked it, each of another
    pub once : IsDistinct nat_eq (tickets_of (with_told lane answers))
    pub ended : IsDistinct nat_eq (ended_tickets answers.completions.items)
    pub ends : AllByRecursion (λ ticket. Contains (tickets_of (with_told lane answers)) ticket) (ended_tickets answers.completions.items)

  -- it looked for answers and found none
  pub record HasLooked (was now : Table) (lane becomes : Lane V C D O R T) (old new : Books V C D O R T) : Type 0 where
    pub pending : IsPending (theory.client_view lane.side) (theory.client_view becomes.side)
    pub did : theory.Did (Collect (theory.client_view lane.side).place None) was now
    -- but for its side the lane stays, and but for its lanes the client
    pub stays : becomes ≡ record lane { side = becomes.side }
    pub rest : new ≡ record old { lanes = new.lanes }

  -- the trusts that a client may have beside those that it has and those that may come
  abbrev pub free_trusts : Books V C D O R T → ℕ
  free_trusts books = books.most - (held_count books.held + books.coming)

  -- what is due at a trustee where nothing is out: the first of what waits; where nothing waits, the Bye; else an empty batch, where
  -- `fetch` was called or a launch lacks its completion
  abbrev pub IsByeDue : Lane V C D O R T → Type 0
  IsByeDue lane = (lane.waits.items ≡ []) × (lane.closing ≡ true) × (has_bye (theory.client_view lane.side).sent ≡ false) × (lane.counting ≡ 0)

  abbrev pub IsFetchDue : Lane V C D O R T → Type 0
  IsFetchDue lane =
      (lane.waits.items ≡ []) × (¬ (IsByeDue lane)) × (has_bye (theory.client_view lane.side).sent ≡ false)
      × ((lane.fetching ≡ true) ⊎ (lane.launched.items ≢ []))

  -- b is due, and rest waits then
  abbrev pub IsDue : Lane V C D O R T → List (Request V O R T) → List (Request V O R T) → Type 0
  IsDue lane b rest =
      ((lane.waits.items ≢ []) × (b ≡ take MOST_REQUESTS lane.waits.items) × (rest ≡ drop MOST_REQUESTS lane.waits.items))
      ⊎ ((IsByeDue lane × (b ≡ Bye ∷ []) × (rest ≡ []))
      ⊎ (IsFetchDue lane × (b ≡ []) × (rest ≡ [])))

  -- it published what is due
  pub record HasSent (n : ℕ) (was now : Table) (lane becomes : Lane V C D O R T) (old new : Books V C D O R T) : Type 0 where
    pub batch : Batch V O R T
    pub free : (theory.client_view lane.side).out ≡ None
    pub due : IsDue lane batch.requests.items becomes.waits.items
    pub room : batch.room ≡ min (free_trusts old) MOST_ROOM
    pub count : n ≡ length batch.requests.items
    pub publishes : Publishes batch.requests.items batch.room (theory.client_view lane.side) (theory.client_view becomes.side)
    pub did : theory.Did (Publish (theory.client_view lane.side).place batch) was now
    pub arrived : new.arrived ≡ old.arrived
    pub gifts : new.gifts ≡ old.gifts
    pub afters : becomes.afters ≡ lane.afters
    pub launched : becomes.launched ≡ lane.launched
    pub counting : becomes.counting ≡ lane.counting
    pub fetching : becomes.fetching ≡ false

  -- nothing is out, and nothing is due
  pub record HasNothing (was now : Table) (lane becomes : Lane V C D O R T) (old new : Books V C D O R T) : Type 0 where
    pub free : (theory.client_view lane.side).out ≡ None
    pub waits : lane.waits.items ≡ []
    pub no_bye : ¬ (IsByeDue lane)
    pub no_fetch : ¬ (IsFetchDue lane)
    pub kept : new ≡ old
    pub table : now ≡ was

  -- what a turn at a lane says that it did is what it did
  abbrev pub Tells : Kind V O R T → ℕ → Turn → Table → Table → Lane V C D O R T → Lane V C D O R T → Books V C D O R T → Books V C D O R T → Type 0
  Tells kind t (Got n) was now lane becomes old new = HasGot kind t n was now lane becomes old new
  Tells kind t Pending was now lane becomes old new = HasLooked was now lane becomes old new
  Tells kind t (Sent n) was now lane becomes old new = HasSent n was now lane becomes old new
  Tells kind t Idle was now lane becomes old new = HasNothing was now lane becomes old new

  -- what a client has seen of a trustee's log: it is legal, ran for the client what was sent but for what is out, and until the Bye each
  -- id that the client's list names is live and held by the client in the state that it leaves
  pub record Sees (kind : Kind V O R T) (opening : State V O R T) (t : ℕ) (lane : Lane V C D O R T) (books : Books V C D O R T) : Type 0 where
    pub is_legal : IsLegal kind opening (theory.client_view lane.side).seen
    pub runs : (theory.client_view lane.side).sent ≡ ran (theory.client_view lane.side).place (theory.client_view lane.side).seen ++ out_requests (theory.client_view lane.side).out
    -- each answer that came is that of the entry of its own request in it, and one to such a request
    pub entries : answers_in (theory.client_view lane.side).got ≡ answered (theory.client_view lane.side).place (theory.client_view lane.side).seen
    pub fits : AllZip Fits (ran (theory.client_view lane.side).place (theory.client_view lane.side).seen) (answers_in (theory.client_view lane.side).got)
    pub live : (id : ℕ) → has_bye (theory.client_view lane.side).sent ≡ false → 1 ≤ listed t id books.held
        → IsHeld (state_after kind opening (theory.client_view lane.side).seen) (theory.client_view lane.side).place id

  -- a turn at trustee t
  pub record HasTurned (kind : Kind V O R T) (t : ℕ) (answer : Turn) (was now : Table) (old new : Books V C D O R T) : Type 0 where
    pub lane : Lane V C D O R T
    pub becomes : Lane V C D O R T
    pub turns : Turns t lane becomes old new
    pub tells : Tells kind t answer was now lane becomes old new
    -- the table keeps its other sides, and the lane's side stays one of its
    pub keeps : KeepsSides theory was now lane.side becomes.side
    -- the log that the side has seen begins with what it had seen before
    pub extends : IsPrefix (theory.client_view lane.side).seen (theory.client_view becomes.side).seen
    pub sees : Sees kind (theory.opening was) t becomes new
