-- What holds of clients, tables and trustees of one build, between any two turns.
use Rattle.std.specs.Prelude.{◌≡◌, ℕ, ◌+◌, ◌≤◌, List, [], length, slice_get, slice_set, vec_capacity}
use Rattle.std.specs.declared.option.Option.TheVariants.{Some}
use Rattle.tm_seq.specs.Kind.{Kind}
use Rattle.tm_batch.specs.declared.config.Config.{Config}
use Rattle.tm_batch.specs.declared.config.First.{First}
use Rattle.tm_model.specs.State.{State}
use Rattle.tm_model.specs.Opening.{IsBuildable, opening_of}
use Rattle.tm_model.specs.Slots.{slot_of}
use Rattle.tm_model.specs.Good.{FullCore, IsGood}
use Rattle.tm_pair.specs.SideViews.{client_of, trustee_of}
use Rattle.tm_pair.specs.Plain.{opening_at, client_at, trustee_at, IsClientOf, plain_theory}
use Rattle.tm_pair.specs.declared.plain.PlainTable.{PlainTable}
use Rattle.tm_pair.specs.declared.plain.PlainClient.{PlainClient}
use Rattle.tm_pair.specs.declared.plain.PlainTrustee.{PlainTrustee}
use Rattle.tm_trustee.specs.Tables.{IsReady}
use Rattle.tm_trustee.specs.declared.trustee.Trustee.{Trustee}
use Rattle.tm_client.specs.Clients.{IsClient}
use Rattle.tm_client.specs.declared.lane.Lane.{Lane}
use Rattle.tm_client.specs.declared.books.Books.{Books}
use Rattle.tm_client.specs.declared.client.Client.{Client}
use Rattle.tm_turns.specs.declared.turns.Turns.{Turns}

-- the clients, the sides that they keep, and the trustees, of tables in one thread
abbrev pub OneClient : Type 0 → Type 0 → Type 0 → Type 0 → Type 0 → Type 0
OneClient V C O R T = Client V C (PlainTable V O R T) O R T (PlainClient V O R T) (PlainTrustee V O R T)

abbrev pub OneLane : Type 0 → Type 0 → Type 0 → Type 0 → Type 0 → Type 0
OneLane V C O R T = Lane V C (PlainClient V O R T) O R T

abbrev pub OneTrustee : Type 0 → Type 0 → Type 0 → Type 0 → Type 0
OneTrustee V O R T = Trustee V (PlainTable V O R T) O R T (PlainClient V O R T) (PlainTrustee V O R T)

module _ {V C O R T : Type 0} where
  -- what client c keeps for trustee t
  pub record HasLane (turns : Turns V C O R T) (c t : ℕ) (lane : OneLane V C O R T) : Type 0 where
    pub client : OneClient V C O R T
    pub of_client : slice_get turns.clients.items c ≡ Some client
    pub of_lane : slice_get client.books.lanes.items t ≡ Some lane

  -- clients, tables and trustees of a runtime that was built from a config and a list of objects, in its order
  pub record AreOf (kind : Kind V O R T) (config : Config) (first : List (First V)) (turns : Turns V C O R T) : Type 0 where
    pub buildable : IsBuildable config first
    pub as_many_clients : length turns.clients.items ≡ config.clients
    pub as_many_tables : length turns.tables.items ≡ config.trustees
    pub as_many_trustees : length turns.trustees.items ≡ config.trustees
    -- each table opened as that of the trustee of its number
    pub tables : (t : ℕ) (table : PlainTable V O R T) → slice_get turns.tables.items t ≡ Some table → opening_at table ≡ opening_of t config first
    -- each trustee is the one of its number, with sides of these tables
    pub trustees : (t : ℕ) (trustee : OneTrustee V O R T) → slice_get turns.trustees.items t ≡ Some trustee
        → (trustee.number ≡ t) × IsReady (plain_theory kind) kind turns.tables.items trustee
    -- each client is the one of its number, at trustees that opened so
    pub clients : (c : ℕ) (client : OneClient V C O R T) → slice_get turns.clients.items c ≡ Some client
        → (client.books.number ≡ c) × (length client.books.lanes.items ≡ config.trustees)
        × IsClient (plain_theory kind).client_view (λ t. opening_of t config first) client.books
    -- its side at each trustee is one of that table
    pub seated : (c t : ℕ) (lane : OneLane V C O R T) (table : PlainTable V O R T) → HasLane turns c t lane
        → slice_get turns.tables.items t ≡ Some table → IsClientOf kind table lane.side
    -- room is reserved for the counts of `close`
    pub counts : turns.counts.items ≡ []
    pub counts_room : config.trustees ≤ vec_capacity turns.counts

  -- they are of one build
  abbrev pub AreTurns : Kind V O R T → Turns V C O R T → Type 0
  AreTurns kind turns = (config : Config) × (first : List (First V)) × AreOf kind config first turns

  -- whatever the build, they are of it still
  abbrev pub Keeps : Kind V O R T → Turns V C O R T → Turns V C O R T → Type 0
  Keeps kind old new = (config : Config) (first : List (First V)) → AreOf kind config first old → AreOf kind config first new

  -- one good core of trustee t: what its own side stands for, and each client's and each lower trustee's side of its table, is what that
  -- core shows
  pub record ShowOneCore (kind : Kind V O R T) (turns : Turns V C O R T) (t : ℕ) (table : PlainTable V O R T) : Type 0 where
    pub core : FullCore V O R T
    pub good : IsGood kind (opening_at table) core
    pub trustee : (trustee : OneTrustee V O R T) → slice_get turns.trustees.items t ≡ Some trustee → trustee_at trustee.side ≡ trustee_of core
    pub clients : (c : ℕ) (lane : OneLane V C O R T) → HasLane turns c t lane → client_at lane.side ≡ client_of c (slot_of core c)
    pub lower : (u i : ℕ) (trustee : OneTrustee V O R T) (seat : PlainClient V O R T) → slice_get turns.trustees.items u ≡ Some trustee
        → slice_get trustee.above.items i ≡ Some seat → u + 1 + i ≡ t
        → client_at seat ≡ client_of (length turns.clients.items + u) (slot_of core (length turns.clients.items + u))

  -- each trustee has one
  abbrev pub OneGoodCoreEach : Kind V O R T → Turns V C O R T → Type 0
  OneGoodCoreEach kind turns = (t : ℕ) (table : PlainTable V O R T) → slice_get turns.tables.items t ≡ Some table → ShowOneCore kind turns t table

-- a client has the number and the sides that it had: what each of its own calls leaves
pub record SameSides {V C D O R T : Type 0} (old new : Books V C D O R T) : Type 0 where
  pub number : new.number ≡ old.number
  pub as_many : length new.lanes.items ≡ length old.lanes.items
  pub sides : (t : ℕ) (lane becomes : Lane V C D O R T) → slice_get old.lanes.items t ≡ Some lane → slice_get new.lanes.items t ≡ Some becomes
      → becomes.side ≡ lane.side

module _ {V C O R T : Type 0} where
  -- a client is one still, whatever the states in which the trustees opened
  abbrev pub StillClient : Kind V O R T → OneClient V C O R T → OneClient V C O R T → Type 0
  StillClient kind client becomes =
      (openings : ℕ → State V O R T) → IsClient (plain_theory kind).client_view openings client.books
      → IsClient (plain_theory kind).client_view openings becomes.books

  -- a call of client c alone, from `client` to `becomes`
  pub record CallsAt (c : ℕ) (client becomes : OneClient V C O R T) (old new : Turns V C O R T) : Type 0 where
    pub of_client : slice_get old.clients.items c ≡ Some client
    pub clients : new.clients.items ≡ slice_set old.clients.items c becomes
    pub tables : new.tables ≡ old.tables
    pub trustees : new.trustees ≡ old.trustees
    pub counts : new.counts ≡ old.counts

-- what a client asks, takes and notes by itself leaves clients, tables and trustees those of one build
abbrev pub CallsKeep : {V O R T : Type 0} → Type 0 → Kind V O R T → Type 0
CallsKeep {V} {O} {R} {T} C kind =
    (c : ℕ) (client becomes : OneClient V C O R T) (old new : Turns V C O R T) → CallsAt c client becomes old new
    → SameSides client.books becomes.books → StillClient kind client becomes → Keeps kind old new

module _ {V C O R T : Type 0} where
  -- each client did this, and nothing else changed
  pub record EachClient (Did : OneClient V C O R T → OneClient V C O R T → Type 0) (old new : Turns V C O R T) : Type 0 where
    pub as_many : length new.clients.items ≡ length old.clients.items
    pub each : (c : ℕ) (client becomes : OneClient V C O R T) → slice_get old.clients.items c ≡ Some client → slice_get new.clients.items c ≡ Some becomes
        → Did client becomes
    pub tables : new.tables ≡ old.tables
    pub trustees : new.trustees ≡ old.trustees
    pub counts : new.counts ≡ old.counts
