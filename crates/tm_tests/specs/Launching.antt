-- For tests: a runtime of one client and three trustees. The greatest has a counter of 7 that the middle one holds, and this one of 5 that
-- the client holds.
use Rattle.std.specs.Prelude.{◌≡◌, ℕ, zero, suc, ◌≤◌, List, [], ◌∷◌, length, slice_get, IsSomeAnd}
use Rattle.std.specs.List.{AllByRecursion}
use Rattle.tm_seq.specs.declared.counter.Counter.{Counter}
use Rattle.tm_seq.specs.declared.counter.CounterOp.{CounterOp}
use Rattle.tm_seq.specs.declared.counter.CounterReply.{CounterReply}
use Rattle.tm_seq.specs.declared.counter.CounterTask.{CounterTask}
use Rattle.tm_batch.specs.declared.message.Name.{Name}
use Rattle.tm_batch.specs.declared.message.Request.{Request}
use Rattle.tm_batch.specs.declared.message.Request.TheVariants.{Apply, Launch}
use Rattle.tm_batch.specs.declared.config.Config.{Config}
use Rattle.tm_batch.specs.declared.config.First.{First}
use Rattle.tm_model.specs.State.{State}
use Rattle.tm_model.specs.Opening.{opening_of}
use Rattle.tm_pair.specs.Views.{ClientView}
use Rattle.tm_pair.specs.Theory.{Theory}
use Rattle.tm_tests.specs.Driving.{IsDriven}
use Rattle.tm_table_tests.specs.Sample.{the_name}
use Rattle.tm_trustee.specs.declared.trustee.Trustee.{Trustee}

abbrev pub three : Config
three = record { clients = 1; trustees = 3; objects = 4; trusts = 4; last_id = 99 }

abbrev pub two_counters : List (First Counter)
two_counters =
    record { trustee = 2; value = record { value = 7 }; holders = 2 ∷ [] } ∷ record { trustee = 1; value = record { value = 5 }; holders = 0 ∷ [] } ∷ []

-- the state in which trustee n opens
abbrev pub launching : ℕ → State Counter CounterOp CounterReply CounterTask
launching n = opening_of n three two_counters

-- the objects that trustee n holds above
abbrev pub held_by_middle : ℕ → List (ℕ × Name)
held_by_middle (suc zero) = (2, the_name) ∷ []
held_by_middle _ = []

module _ {V O R T : Type 0} where
  -- a request runs an operation or launches work on the object of id 1
  abbrev pub IsWork : Request V O R T → Type 0
  IsWork (Apply n op) = n.id ≡ 1
  IsWork (Launch n task) = n.id ≡ 1
  IsWork _ = ⊥

  -- client 0 sent so many of these at most, and no others
  pub record HasAsked (count : ℕ) (view : ClientView V O R T) : Type 0 where
    pub place : view.place ≡ 0
    pub works : AllByRecursion IsWork view.sent
    pub size : length view.sent ≤ count

module _ {Table Client Owner : Type 0} (theory : Theory Counter CounterOp CounterReply CounterTask Table Client Owner) where
  -- the middle trustee and the greatest are ready for a turn, and the client sent so many works at most, its side being of the middle
  -- one's table
  pub record IsPlayed (tables : List Table) (t u : Trustee Counter Table CounterOp CounterReply CounterTask Client Owner) (client : Client) (n : ℕ) : Type 0 where
    pub middle : IsDriven theory tables 1 t
    pub greatest : IsDriven theory tables 2 u
    pub seated : IsSomeAnd (slice_get tables 1) (λ table. (theory.opening table ≡ launching 1) × theory.HasClient table client)
    pub asked : HasAsked n (theory.client_view client)
    pub few : n ≤ 64
