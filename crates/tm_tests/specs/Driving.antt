-- For tests: a runtime of one client and two trustees, of which the greater has a counter of 0 that the client and the lesser hold.
use Rattle.std.specs.Prelude.{◌≡◌, ◌≢◌, ℕ, zero, suc, ◌+◌, false, List, [], ◌∷◌, slice_get, IsSomeAnd}
use Rattle.tm_seq.specs.Counting.{counter_kind}
use Rattle.tm_seq.specs.declared.counter.Counter.{Counter}
use Rattle.tm_seq.specs.declared.counter.CounterOp.{CounterOp}
use Rattle.tm_seq.specs.declared.counter.CounterOp.TheVariants.{Add}
use Rattle.tm_seq.specs.declared.counter.CounterReply.{CounterReply}
use Rattle.tm_seq.specs.declared.counter.CounterTask.{CounterTask}
use Rattle.tm_batch.specs.declared.message.Name.{Name}
use Rattle.tm_batch.specs.declared.message.Request.{Request}
use Rattle.tm_batch.specs.declared.message.Request.TheVariants.{Entrust, Apply, Release}
use Rattle.tm_batch.specs.declared.config.Config.{Config}
use Rattle.tm_batch.specs.declared.config.First.{First}
use Rattle.tm_model.specs.State.{State}
use Rattle.tm_model.specs.Opening.{opening_of}
use Rattle.tm_model.specs.Holds.{has_bye, launches_in, ended_in}
use Rattle.tm_pair.specs.Views.{ClientView}
use Rattle.tm_pair.specs.Theory.{Theory}
use Rattle.tm_pair.specs.declared.table.Collected.{Collected}
use Rattle.tm_pair.specs.declared.table.Collected.TheVariants.{Answers, Pending, Idle}
use Rattle.tm_trustee.specs.Tables.{IsReady}
use Rattle.tm_table_tests.specs.Sample.{the_name}
use Rattle.tm_trustee.specs.declared.trustee.Trustee.{Trustee}

abbrev pub small : Config
small = record { clients = 1; trustees = 2; objects = 4096; trusts = 4; last_id = 9 }

abbrev pub one_counter : List (First Counter)
one_counter = record { trustee = 1; value = record { value = 0 }; holders = 0 ∷ 1 ∷ [] } ∷ []

-- the state in which trustee n opens
abbrev pub counting : ℕ → State Counter CounterOp CounterReply CounterTask
counting n = opening_of n small one_counter

-- 5 is added to it, and it is given up
abbrev pub adds_and_releases : {V R T : Type 0} → List (Request V CounterOp R T)
adds_and_releases = Apply the_name (Add 5) ∷ Release the_name ∷ []

-- the objects that trustee n holds above
abbrev pub held_above : ℕ → List (ℕ × Name)
held_above zero = (1, the_name) ∷ []
held_above (suc n) = []

-- 7 is added to the counter
abbrev pub adds_more : {V R T : Type 0} → List (Request V CounterOp R T)
adds_more = Apply the_name (Add 7) ∷ []

-- two counters are entrusted
abbrev pub entrusts_two : List (Request Counter CounterOp CounterReply CounterTask)
entrusts_two = Entrust (record { value = 1 }) ∷ Entrust (record { value = 2 }) ∷ []

-- answers were found by which no launch ended
abbrev pub EndsNothing : {V O R T : Type 0} → Collected V O R T → Type 0
EndsNothing (Answers a) = ended_in (a ∷ []) ≡ 0
EndsNothing Pending = ⊥
EndsNothing Idle = ⊥

-- a side said no Bye, and none of its launches lacks its completion, of which there were none
pub record MayBye {V O R T : Type 0} (view : ClientView V O R T) : Type 0 where
  pub before : has_bye view.sent ≡ false
  pub launches : launches_in view.sent ≡ 0
  pub ended : ended_in view.got ≡ 0

module _ {Table Client Owner : Type 0} (theory : Theory Counter CounterOp CounterReply CounterTask Table Client Owner) where
  -- a side is of the table of trustee n
  abbrev pub IsSeated : List Table → ℕ → Client → Type 0
  IsSeated tables n side = IsSomeAnd (slice_get tables n) (λ table. (theory.opening table ≡ counting n) × theory.HasClient table side)

  -- trustee n is ready for a turn
  pub record IsDriven (tables : List Table) (n : ℕ) (t : Trustee Counter Table CounterOp CounterReply CounterTask Client Owner) : Type 0 where
    pub ready : IsReady theory counter_kind tables t
    pub number : t.number ≡ n
    pub clients : t.clients ≡ 1

  -- what a call at a side of place c leaves, and a turn of the trustee that has place c above: the sides of other places, and the trustees
  -- that have another place above
  pub record KeepsOthers (old new : List Table) (c : ℕ) : Type 0 where
    pub sides : (n : ℕ) (other : Client) → (theory.client_view other).place ≢ c → IsSeated old n other → IsSeated new n other
    pub trustees : (n : ℕ) (t : Trustee Counter Table CounterOp CounterReply CounterTask Client Owner) → 1 + n ≢ c → IsDriven old n t → IsDriven new n t
