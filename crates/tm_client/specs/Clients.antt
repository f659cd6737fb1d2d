-- What a client keeps, and what holds of it between two calls.
use Rattle.std.specs.Prelude.{◌≡◌, ℕ, ◌+◌, ◌*◌, ◌<◌, ◌≤◌, ◌==◌, cond, List, [], ◌∷◌, ◌++◌, length, slice_get}
use Rattle.std.specs.List.{AllByRecursion}
use Rattle.std.specs.declared.option.Option.TheVariants.{Some}
use Rattle.tm_batch.specs.declared.limits.TheConstants.{WINDOW, MOST_TRUSTS}
use Rattle.tm_batch.specs.declared.message.Name.{Name}
use Rattle.tm_batch.specs.declared.message.Answer.{Answer}
use Rattle.tm_batch.specs.declared.message.Answer.TheVariants.{Entrusted, NotEntrusted, Launched, Reclaimed, Shared, ByeDone}
use Rattle.tm_model.specs.State.{State}
use Rattle.tm_model.specs.Holds.{gave, came}
use Rattle.tm_pair.specs.Views.{ClientView}
use Rattle.tm_client.specs.declared.lane.Lane.{Lane}
use Rattle.tm_client.specs.declared.holds.Hold.{Hold}
use Rattle.tm_client.specs.declared.trust.Trust.{Trust}
use Rattle.tm_client.specs.declared.answers.Arrival.{Arrival}
use Rattle.tm_client.specs.declared.answers.Came.{Came}
use Rattle.tm_client.specs.declared.answers.Came.TheVariants.{Answered, Finished}
use Rattle.tm_client.specs.declared.books.Books.{Books}
use Rattle.tm_client.specs.Listing.{is_at, listed, held_count, room_for, held_at}
use Rattle.tm_client.specs.Lanes.{unanswered, bringing, out_room, IsLane}

-- how many gifts are of an id of trustee t
abbrev pub given : ℕ → ℕ → List Trust → ℕ
given t id [] = 0
given t id (g ∷ gifts) = is_at t id g.trustee g.name.id + given t id gifts

-- the sum of a number of each element
abbrev pub total : {X : Type 0} → (X → ℕ) → List X → ℕ
total f [] = 0
total f (x ∷ xs) = f x + total f xs

module _ {V O R T : Type 0} where
  -- whether taking an answer may bring a trust: that to an entrust or a reclaim
  abbrev pub brings : Answer V O R T → ℕ
  brings (Entrusted n) = 1
  brings (NotEntrusted refusal v) = 1
  brings (Reclaimed v) = 1
  brings Shared = 1
  brings _ = 0

  -- how many holds on an id the answer of a trustee to a request of this name brings: that of an object that was taken, or the one that
  -- was to be given up
  abbrev pub entrusted : ℕ → ℕ → ℕ → Name → Answer V O R T → ℕ
  entrusted t id trustee name (Entrusted n) = is_at t id trustee n.id
  entrusted t id trustee name Shared = is_at t id trustee name.id
  entrusted t id trustee name _ = 0

  -- an answer that waits to be taken: no ticket, whose launch waits for its completion, and none of a Bye
  abbrev pub IsTakeable : Answer V O R T → Type 0
  IsTakeable (Launched ticket) = ⊥
  IsTakeable ByeDone = ⊥
  IsTakeable _ = Unit {0}

  -- so of what came: a completion waits to be taken, and brings no trust
  abbrev pub MayHand : Came V O R T → Type 0
  MayHand (Answered a) = IsTakeable a
  MayHand (Finished reply) = Unit {0}

  abbrev pub brings_by : Came V O R T → ℕ
  brings_by (Answered a) = brings a
  brings_by (Finished reply) = 0

  abbrev pub entrusted_by : ℕ → ℕ → ℕ → Name → Came V O R T → ℕ
  entrusted_by t id trustee name (Answered a) = entrusted t id trustee name a
  entrusted_by t id trustee name (Finished reply) = 0

module _ {V O R T C : Type 0} where
  -- how many of some arrivals are of trustee t
  abbrev pub come_of : ℕ → List (Arrival V C O R T) → ℕ
  come_of t [] = 0
  come_of t (a ∷ arrived) = cond (a.trustee == t) 1 0 + come_of t arrived

  -- how many of some arrivals may bring a trust, and how many holds on an id of trustee t they bring
  abbrev pub brought_in : List (Arrival V C O R T) → ℕ
  brought_in [] = 0
  brought_in (a ∷ arrived) = brings_by a.came + brought_in arrived

  abbrev pub entrusted_in : ℕ → ℕ → List (Arrival V C O R T) → ℕ
  entrusted_in t id [] = 0
  entrusted_in t id (a ∷ arrived) = entrusted_by t id a.trustee a.name a.came + entrusted_in t id arrived

module _ {V O R T C D : Type 0} (view : D → ClientView V O R T) where
  -- how many trusts may come by what a lane sent or lets wait: its entrusts and reclaims, and the room of the batch that is out
  abbrev pub lane_coming : Lane V C D O R T → ℕ
  lane_coming lane = bringing (unanswered view lane) + out_room (view lane.side).out

  -- so for all lanes; and how many requests of all lanes were not answered, lack their completion, and count
  abbrev pub lanes_coming : List (Lane V C D O R T) → ℕ
  lanes_coming lanes = total lane_coming lanes

  abbrev pub lanes_unanswered : List (Lane V C D O R T) → ℕ
  lanes_unanswered lanes = total (λ lane. length (unanswered view lane)) lanes

  abbrev pub lanes_launched : List (Lane V C D O R T) → ℕ
  lanes_launched lanes = total (λ lane. length lane.launched.items) lanes

  abbrev pub lanes_counting : List (Lane V C D O R T) → ℕ
  lanes_counting lanes = total (λ lane. lane.counting) lanes

  -- the trusts that a client has and those that may still come to it, which `TrustsFull` counts
  abbrev pub all_trusts : Books V C D O R T → ℕ
  all_trusts books = held_count books.held + (lanes_coming books.lanes.items + brought_in books.arrived.items + length books.gifts.items)

  -- a client at trustees that opened in these states, by their numbers
  pub record IsClient (openings : ℕ → State V O R T) (books : Books V C D O R T) : Type 0 where
    pub lanes : (t : ℕ) (lane : Lane V C D O R T) → slice_get books.lanes.items t ≡ Some lane
        → IsLane view (openings t) books.number (come_of t books.arrived.items) lane
    pub clients : (t : ℕ) → t < length books.lanes.items → (openings t).setup.config.clients ≡ books.clients
    -- what it holds at each trustee is what came, less what it gave away and what came and was not taken
    pub holds : (t : ℕ) (lane : Lane V C D O R T) (id : ℕ) → slice_get books.lanes.items t ≡ Some lane
        → listed t id books.held + (entrusted_in t id books.arrived.items + given t id books.gifts.items) + gave id ((view lane.side).sent ++ lane.waits.items)
        ≡ came (openings t) books.number (view lane.side).sent (view lane.side).got id
    pub held : (at : ℕ) (h : Hold) → held_at books.held at ≡ Some h → h.trustee < length books.lanes.items
    pub coming : books.coming ≡ lanes_coming books.lanes.items + brought_in books.arrived.items + length books.gifts.items
    pub most : held_count books.held + books.coming ≤ books.most
    pub limit : books.most ≤ MOST_TRUSTS
    pub arrived : AllByRecursion (λ a. (a.trustee < length books.lanes.items) × MayHand a.came) books.arrived.items
    pub gifts : AllByRecursion (λ g. (g.trustee < length books.lanes.items) × (g.client ≡ books.number)) books.gifts.items
    -- all room is reserved
    pub held_room : books.most ≤ room_for books.held
    pub gifts_room : books.most ≤ books.gifts.capacity
    pub counting : length books.arrived.items + (lanes_unanswered books.lanes.items + lanes_launched books.lanes.items) ≡ lanes_counting books.lanes.items
    pub arrived_room : books.arrived.capacity ≡ WINDOW * length books.lanes.items
