-- What a client keeps for one trustee, and what holds of it.
use Rattle.std.specs.Prelude.{◌≡◌, ℕ, ◌+◌, ◌<◌, ◌≤◌, Bool, true, false, List, [], ◌∷◌, ◌++◌, length, map}
use Rattle.std.specs.List.{AllByRecursion}
use Rattle.std.specs.declared.option.Option.{Option}
use Rattle.std.specs.declared.option.Option.TheVariants.{None, Some}
use Rattle.tm_batch.specs.declared.limits.TheConstants.{WINDOW}
use Rattle.tm_batch.specs.declared.message.Name.{Name}
use Rattle.tm_batch.specs.declared.message.Request.{Request}
use Rattle.tm_batch.specs.declared.message.Request.TheVariants.{Entrust, Apply, Launch, Grant, Release, Reclaim, Bye}
use Rattle.tm_model.specs.State.{State}
use Rattle.tm_model.specs.Holds.{Names, has_bye, gave, came}
use Rattle.tm_model.specs.Orderly.{GrantsBelow}
use Rattle.tm_pair.specs.Views.{BatchView, ClientView}
use Rattle.tm_client.specs.declared.lane.Lane.{Lane}
use Rattle.tm_client.specs.declared.lane.Waiting.{Waiting}
use Rattle.tm_client.specs.Launches.{tickets_of, waiting_tickets}

module _ {V O R T : Type 0} where
  -- requests without the Byes, which no caller made
  abbrev pub asks_in : List (Request V O R T) → List (Request V O R T)
  asks_in [] = []
  asks_in (Bye ∷ qs) = asks_in qs
  asks_in (q ∷ qs) = q ∷ asks_in qs

  -- the name that a request has; one of zeros for an entrust and a Bye, which have none
  abbrev pub name_of : Request V O R T → Name
  name_of (Apply n op) = n
  name_of (Launch n task) = n
  name_of (Grant n d) = n
  name_of (Release n) = n
  name_of (Reclaim n) = n
  name_of (Entrust v) = record { id = 0; place = 0 }
  name_of Bye = record { id = 0; place = 0 }

  -- the requests of the batch that is out
  abbrev pub out_requests : Option (BatchView V O R T) → List (Request V O R T)
  out_requests None = []
  out_requests (Some batch) = batch.requests

  -- how many gifts may come with the answers to the batch that is out
  abbrev pub out_room : Option (BatchView V O R T) → ℕ
  out_room None = 0
  out_room (Some batch) = batch.room

  abbrev pub is_out : Option (BatchView V O R T) → Bool
  is_out None = false
  is_out (Some batch) = true

  -- how many of some requests may bring a trust when their answers are taken
  abbrev pub bringing : List (Request V O R T) → ℕ
  bringing [] = 0
  bringing (Entrust v ∷ qs) = 1 + bringing qs
  bringing (Reclaim n ∷ qs) = 1 + bringing qs
  bringing (_ ∷ qs) = bringing qs

  -- a request that a call of a client accepts: a Bye is the client's own
  abbrev pub IsAccepted : Request V O R T → Type 0
  IsAccepted Bye = ⊥
  IsAccepted _ = Unit {0}

  -- each request that waits names an id that the client still holds after what it sent and what waits before it
  abbrev pub AreHeld : State V O R T → ClientView V O R T → List (Request V O R T) → Type 0
  AreHeld opening side waits =
      (before after : List (Request V O R T)) (q : Request V O R T) (id : ℕ) → waits ≡ before ++ q ∷ after → Names q id
      → gave id (side.sent ++ before) < came opening side.place side.sent side.got id

-- the names of the requests whose answers some continuations wait for
abbrev pub names_of : {C : Type 0} → List (Waiting C) → List Name
names_of waiting = map (λ w. w.name) waiting

module _ {V O R T C D : Type 0} where
  -- a lane took a request with its continuation behind those that wait
  pub record HasAccepted (q : Request V O R T) (after : C) (old new : Lane V C D O R T) : Type 0 where
    pub side : new.side ≡ old.side
    pub waits : new.waits.items ≡ old.waits.items ++ q ∷ []
    pub waits_room : new.waits.capacity ≡ old.waits.capacity
    pub afters : new.afters.items ≡ old.afters.items ++ (record { after = after; name = name_of q }) ∷ []
    pub afters_room : new.afters.capacity ≡ old.afters.capacity
    pub launched : new.launched ≡ old.launched
    pub counting : new.counting ≡ old.counting + 1
    pub out : new.out ≡ old.out
    pub room : new.room ≡ old.room
    pub fetching : new.fetching ≡ old.fetching
    pub closing : new.closing ≡ old.closing
    pub said : new.said ≡ old.said

module _ {V O R T C D : Type 0} (view : D → ClientView V O R T) where
  -- the requests whose answers did not come, in order: those that are out, and those that wait
  abbrev pub unanswered : Lane V C D O R T → List (Request V O R T)
  unanswered lane = asks_in (out_requests (view lane.side).out) ++ lane.waits.items

  -- all requests that were accepted, in the order of the calls
  abbrev pub accepted : Lane V C D O R T → List (Request V O R T)
  accepted lane = asks_in (view lane.side).sent ++ lane.waits.items

  -- the lane of client c at a trustee that opened in this state, of which so much came and was not taken: answers and completions
  pub record IsLane (opening : State V O R T) (c came_here : ℕ) (lane : Lane V C D O R T) : Type 0 where
    pub place : (view lane.side).place ≡ c
    pub client : c < opening.setup.config.clients
    pub waits_room : lane.waits.capacity ≡ WINDOW
    pub afters_room : lane.afters.capacity ≡ WINDOW
    pub launched_room : lane.launched.capacity ≡ WINDOW
    -- there is a continuation for each request whose answer did not come, with the name of that request
    pub names : names_of lane.afters.items ≡ map name_of (unanswered lane)
    -- the launches that lack their completion are those whose tickets came and whose completions did not
    pub launched : tickets_of lane.launched.items ≡ waiting_tickets (view lane.side).got
    -- a request counts until its answer is taken, and a launch until its completion is, or its refusal
    pub counting : lane.counting ≡ length (unanswered lane) + length lane.launched.items + came_here
    pub window : lane.counting ≤ WINDOW
    pub out : lane.out ≡ is_out (view lane.side).out
    pub room : lane.room ≡ out_room (view lane.side).out
    pub said : lane.said ≡ has_bye (view lane.side).sent
    -- a Bye is sent only after `close`, when nothing counts
    pub last : lane.said ≡ true → (lane.closing ≡ true) × (lane.counting ≡ 0)
    pub out_accepted : AllByRecursion IsAccepted (asks_in (out_requests (view lane.side).out))
    pub waits : AllByRecursion IsAccepted lane.waits.items
    pub grants : AllByRecursion (GrantsBelow opening.setup.config.clients) lane.waits.items
    pub held : AreHeld opening (view lane.side) lane.waits.items
