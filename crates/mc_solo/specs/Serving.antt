-- One client of a runtime over the store is served a session, on one thread.
use Rattle.std.specs.Prelude.{◌≡◌, ◌≢◌, ℕ, ◌+◌, ◌-◌, ◌^◌, List, [], ◌∷◌, length, slice_get, Option, Some}
use Rattle.tm_batch.specs.declared.config.Config.{Config}
use Rattle.tm_model.specs.Lists.{IsPrefix}
use Rattle.tm_pair.specs.Plain.{trustee_at, plain_theory}
use Rattle.tm_pair.specs.declared.plain.PlainClient.{PlainClient}
use Rattle.tm_client.specs.declared.trust.Trust.{Trust}
use Rattle.tm_asking.specs.Asking.{NoneCounts, AllOpen, sides_of}
use Rattle.tm_turns.specs.Whole.{OneClient, OneTrustee, Keeps}
use Rattle.tm_turns.specs.declared.turns.Turns.{Turns}
use Rattle.mc_item.specs.declared.limits.TheConstants.{CLASSES}
use Rattle.mc_model.specs.declared.reply.ShardReply.{ShardReply}
use Rattle.mc_shard.specs.declared.op.ShardOp.{ShardOp}
use Rattle.mc_route.specs.Places.{StoreValue}
use Rattle.mc_next.specs.declared.ended.Ended.{Ended}
use Rattle.mc_next.specs.Parts.{StoreTask, StoreView, store_kind}
use Rattle.mc_next.specs.Clients.{AreStoreTrusts}
use Rattle.mc_next.specs.Runs.{Setting, HasRun, IsInTurn}
use Rattle.mc_next.specs.Sessions.{IsOf, seen}

-- a runtime over the store on one thread, and a client of it
abbrev pub StoreTurns : Type 0
StoreTurns = Turns StoreValue ℕ ShardOp ShardReply StoreTask

abbrev pub StoreClient : Type 0
StoreClient = OneClient StoreValue ℕ ShardOp ShardReply StoreTask

-- what a client's side at a table stands for
abbrev pub store_view : PlainClient StoreValue ShardOp ShardReply StoreTask → StoreView
store_view = (plain_theory store_kind).client_view

-- The config of a runtime over the store: as many objects as classes at most at one trustee, a trust of each object, and ids and tickets up to
-- the last u64.
abbrev pub store_config : ℕ → ℕ → Config
store_config clients trustees = record { clients = clients; trustees = trustees; objects = CLASSES; trusts = CLASSES + 1; last_id = 2 ^ 64 - 1 }

-- A session may begin with client `place`: it holds these trusts of the store, no request of it counts, and it was closed for no trustee.
pub record MayServe (place : ℕ) (trusts : List Trust) (turns : StoreTurns) : Type 0 where
  pub client : StoreClient
  pub of_client : slice_get turns.clients.items place ≡ Some client
  pub are_trusts : AreStoreTrusts (length turns.tables.items) client.books trusts
  pub none : NoneCounts client.books
  pub all_open : AllOpen client.books

-- A session that ended so has run, of which the first `limit` bytes of the input are answered, by what client `place` and the devices tell
-- before and after.
abbrev pub HasServed :
    Ended → ℕ → List Trust → ℕ → StoreTurns → StoreTurns → Option (List ℕ) → Option (List ℕ) → Option (List ℕ) → Option (List ℕ) → Option (List ℕ) → Option (List ℕ) → Type 0
HasServed ended place trusts limit old new left left_new readings readings_new written written_new =
    (s : Setting) (client becomes : StoreClient) → s.limit ≡ limit → IsOf s trusts (length old.tables.items)
    → slice_get old.clients.items place ≡ Some client → slice_get new.clients.items place ≡ Some becomes
    → HasRun s ended (seen store_view client.books left readings written) (seen store_view becomes.books left_new readings_new written_new)

-- no other client changed
pub record KeepsOthers (place : ℕ) (old new : StoreTurns) : Type 0 where
  pub as_many : length new.clients.items ≡ length old.clients.items
  pub others : (c : ℕ) → c ≢ place → slice_get new.clients.items c ≡ slice_get old.clients.items c

-- ---- one command after another

-- there are as many trustees, and the log of each only grew
pub record LogsGrow {V C O R T : Type 0} (old new : Turns V C O R T) : Type 0 where
  pub as_many : length new.trustees.items ≡ length old.trustees.items
  pub grow : (t : ℕ) (trustee becomes : OneTrustee V O R T) → slice_get old.trustees.items t ≡ Some trustee → slice_get new.trustees.items t ≡ Some becomes
      → IsPrefix (trustee_at trustee.side).log (trustee_at becomes.side).log

-- from one state of the runtime to another: it is of its build still, logs only grew, and no other client than `place` changed
pub record GoesOn (place : ℕ) (old new : StoreTurns) : Type 0 where
  pub keeps : Keeps store_kind old new
  pub logs : LogsGrow old new
  pub others : KeepsOthers place old new

-- from one state of the runtime it went on to another one, at which the sides of client `place` stood as this mark says, no request of it counted,
-- and it was closed for no trustee
pub record IsMark (place : ℕ) (old mid : StoreTurns) (mark : ℕ → StoreView) : Type 0 where
  pub goes : GoesOn place old mid
  pub client : StoreClient
  pub of_client : slice_get mid.clients.items place ≡ Some client
  pub mark_is : mark ≡ sides_of store_view client.books
  pub none : NoneCounts client.books
  pub all_open : AllOpen client.books

-- from one state of the runtime it went on to these, one after another, with these marks
abbrev pub AreMarked : ℕ → StoreTurns → List StoreTurns → List (ℕ → StoreView) → Type 0
AreMarked place turns [] [] = Unit {0}
AreMarked place turns [] (mark ∷ marks) = ⊥
AreMarked place turns (mid ∷ later) [] = ⊥
AreMarked place turns (mid ∷ later) (mark ∷ marks) = IsMark place turns mid mark × AreMarked place mid later marks

-- the last of some states, or the one before the first
abbrev pub last_state : StoreTurns → List StoreTurns → StoreTurns
last_state turns [] = turns
last_state turns (mid ∷ later) = last_state mid later

-- A session that ended so has run one command after another: the marks of its run are the client's sides at states of the runtime, one after
-- another, from that before it to that after it.
abbrev pub HasServedInTurn :
    Ended → ℕ → List Trust → ℕ → StoreTurns → StoreTurns → Option (List ℕ) → Option (List ℕ) → Option (List ℕ) → Option (List ℕ) → Option (List ℕ) → Option (List ℕ) → Type 0
HasServedInTurn ended place trusts limit old new left left_new readings readings_new written written_new =
    (s : Setting) (client becomes : StoreClient) → s.limit ≡ limit → IsOf s trusts (length old.tables.items)
    → slice_get old.clients.items place ≡ Some client → slice_get new.clients.items place ≡ Some becomes
    → (marks : List (ℕ → StoreView)) × (states : List StoreTurns)
    × (run : HasRun s ended (seen store_view client.books left readings written) (seen store_view becomes.books left_new readings_new written_new))
    × IsInTurn s marks ended (seen store_view client.books left readings written) (seen store_view becomes.books left_new readings_new written_new) run
    × AreMarked place old states marks × GoesOn place (last_state old states) new
