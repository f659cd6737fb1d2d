-- One client of a whole is driven by who holds it: by its own calls and turns, made from outside, and by the serving turns of all trustees.
use Rattle.std.specs.Prelude.{◌≡◌, ◌≢◌, ℕ, ◌<◌, ◌≤◌, true, false, length, slice_get, slice_set}
use Rattle.std.specs.List.{range_with_len}
use Rattle.std.specs.declared.option.Option.TheVariants.{Some}
use Rattle.tm_seq.specs.Kind.{Kind}
use Rattle.tm_model.specs.State.{State}
use Rattle.tm_model.specs.Slots.{is_answered, slot_of}
use Rattle.tm_pair.specs.Views.{BatchView}
use Rattle.tm_pair.specs.Plain.{opening_at, core_at, client_at, plain_theory}
use Rattle.tm_pair.specs.declared.plain.PlainTable.{PlainTable}
use Rattle.tm_client.specs.Clients.{IsClient}
use Rattle.tm_client.specs.Turns.{HasTurned}
use Rattle.tm_client.specs.declared.answers.Turn.{Turn}
use Rattle.tm_client.specs.declared.answers.Turn.TheVariants.{Pending}
use Rattle.tm_turns.specs.Whole.{OneClient, OneLane, HasLane, AreTurns, Keeps, CallsAt}
use Rattle.tm_turns.specs.Going.{has_moved, AllGo}
use Rattle.tm_turns.specs.declared.turns.Turns.{Turns}

module _ {V C O R T : Type 0} where
  -- at trustee t a batch of client c is out, and its answers have not come
  pub record AwaitsAt (c t : ℕ) (turns : Turns V C O R T) : Type 0 where
    pub lane : OneLane V C O R T
    pub table : PlainTable V O R T
    pub has : HasLane turns c t lane
    pub of_table : slice_get turns.tables.items t ≡ Some table
    pub batch : BatchView V O R T
    pub out : (client_at lane.side).out ≡ Some batch
    pub unanswered : is_answered (slot_of (core_at table) (client_at lane.side).place).box ≡ false

  -- so at each trustee where a request of client c counts, and at one at least
  pub record Awaits (c : ℕ) (turns : Turns V C O R T) : Type 0 where
    pub each : (t : ℕ) (lane : OneLane V C O R T) → HasLane turns c t lane → lane.counting ≢ 0 → AwaitsAt c t turns
    pub trustee : ℕ
    pub one : AwaitsAt c trustee turns

  -- client c took of what arrived, and nothing else
  pub record TakesAt (c : ℕ) (client becomes : OneClient V C O R T) (old new : Turns V C O R T) : Type 0 where
    pub calls : CallsAt c client becomes old new
    pub as_many : length becomes.books.lanes.items ≡ length client.books.lanes.items
    pub lanes : (t : ℕ) (lane after : OneLane V C O R T) → slice_get client.books.lanes.items t ≡ Some lane → slice_get becomes.books.lanes.items t ≡ Some after
        → (after.side ≡ lane.side) × (after.waits ≡ lane.waits) × (after.fetching ≡ lane.fetching)

  module _ (kind : Kind V O R T) where
    -- client c made its turn at trustee t, which said `answer`; all else is as it was
    pub record TurnedAt (c t : ℕ) (answer : Turn) (old new : Turns V C O R T) : Type 0 where
      pub client : OneClient V C O R T
      pub becomes : OneClient V C O R T
      pub was : PlainTable V O R T
      pub now : PlainTable V O R T
      pub of_client : slice_get old.clients.items c ≡ Some client
      pub of_table : slice_get old.tables.items t ≡ Some was
      pub turned : HasTurned (plain_theory kind) kind t answer was now client.books becomes.books
      pub still : (openings : ℕ → State V O R T) → openings t ≡ opening_at was
          → IsClient (plain_theory kind).client_view openings client.books → IsClient (plain_theory kind).client_view openings becomes.books
      pub clients : new.clients.items ≡ slice_set old.clients.items c becomes
      pub tables : new.tables.items ≡ slice_set old.tables.items t now
      pub trustees : new.trustees ≡ old.trustees
      pub counts : new.counts ≡ old.counts

    -- each trustee made its serving turn, in order, of which n moved something
    abbrev pub ServesEach : ℕ → Turns V C O R T → Turns V C O R T → Type 0
    ServesEach n old new = AllGo kind (range_with_len (length old.clients.items) (length old.trustees.items)) n old new

    -- A number that tells how much is still to do while client c is driven. It is one of the three lists alone; what the client takes leaves it,
    -- each of its turns that moves something lessens it, and so do the serving turns of all trustees where it awaits answers.
    pub record IsToDrive (c : ℕ) (to_drive : Turns V C O R T → ℕ) : Type 0 where
      pub lists : (old new : Turns V C O R T) → new.clients.items ≡ old.clients.items → new.tables.items ≡ old.tables.items
          → new.trustees.items ≡ old.trustees.items → to_drive new ≡ to_drive old
      pub takes : (client becomes : OneClient V C O R T) (old new : Turns V C O R T) → TakesAt c client becomes old new → to_drive new ≡ to_drive old
      pub turns : (t : ℕ) (answer : Turn) (old new : Turns V C O R T) → AreTurns kind old → TurnedAt c t answer old new
          → (to_drive new ≤ to_drive old) × (has_moved answer ≡ true → to_drive new < to_drive old)
      pub serves : (n : ℕ) (old new : Turns V C O R T) → AreTurns kind old → Awaits c old → ServesEach n old new → to_drive new < to_drive old

-- a turn of a client at a table, made from outside, leaves all that of one build
abbrev pub DeedsKeep : {V O R T : Type 0} → Type 0 → Kind V O R T → Type 0
DeedsKeep {V} {O} {R} {T} C kind = (c t : ℕ) (answer : Turn) (old new : Turns V C O R T) → TurnedAt kind c t answer old new → Keeps kind old new

-- who drives a client comes to an end: there is such a number, whichever client it is; and a turn that said `Pending` tells that answers are awaited
abbrev pub DrivingEnds : {V O R T : Type 0} → Type 0 → Kind V O R T → Type 0
DrivingEnds {V} {O} {R} {T} C kind =
    ((c : ℕ) → (to_drive : Turns V C O R T → ℕ) × IsToDrive kind c to_drive)
    × ((c t : ℕ) (old new : Turns V C O R T) → AreTurns kind old → TurnedAt kind c t Pending old new → AwaitsAt c t new)
