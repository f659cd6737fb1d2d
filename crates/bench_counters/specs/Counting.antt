-- A runtime of some clients and two trustees, of which the greater has a counter of 0 that each client holds.
use Rattle.std.specs.Prelude.{◌≡◌, ℕ, zero, suc, ◌+◌, ◌<◌, ◌≤◌, List, [], ◌∷◌, ◌++◌, length, All}
use Rattle.std.specs.List.{AllByRecursion, range_with_len}
use Rattle.std.specs.declared.option.Option.TheVariants.{None}
use Rattle.tm_seq.specs.declared.counter.Counter.{Counter}
use Rattle.tm_seq.specs.declared.counter.CounterOp.{CounterOp}
use Rattle.tm_seq.specs.declared.counter.CounterReply.{CounterReply}
use Rattle.tm_seq.specs.declared.counter.CounterReply.TheVariants.{Is}
use Rattle.tm_seq.specs.declared.counter.CounterTask.{CounterTask}
use Rattle.tm_batch.specs.declared.config.Config.{Config}
use Rattle.tm_batch.specs.declared.config.First.{First}
use Rattle.tm_batch.specs.declared.message.Request.{Request}
use Rattle.tm_batch.specs.declared.message.Request.TheVariants.{Apply}
use Rattle.tm_batch.specs.declared.message.Answer.{Answer}
use Rattle.tm_batch.specs.declared.message.Answer.TheVariants.{Replied}
use Rattle.tm_model.specs.State.{State, holds_at}
use Rattle.tm_model.specs.Opening.{opening_of}
use Rattle.tm_pair.specs.Theory.{Theory}
use Rattle.tm_pair.specs.declared.table.Collected.{Collected}
use Rattle.tm_pair.specs.declared.table.Collected.TheVariants.{Answers, Pending, Idle}

abbrev pub config_of : ℕ → Config
config_of clients = record { clients = clients; trustees = 2; objects = 1; trusts = 1; last_id = 1 }

abbrev pub first_of : ℕ → List (First Counter)
first_of clients = record { trustee = 1; value = record { value = 0 }; holders = range_with_len 0 clients } ∷ []

-- the state in which trustee t opens
abbrev pub counting : ℕ → ℕ → State Counter CounterOp CounterReply CounterTask
counting clients t = opening_of t (config_of clients) (first_of clients)

-- a request is an operation on the counter
abbrev pub IsOfCounter : {V O R T : Type 0} → Request V O R T → Type 0
IsOfCounter (Apply name op) = name.id ≡ 1
IsOfCounter _ = ⊥

-- 1 + 2 + ... + n
abbrev pub up_to : ℕ → ℕ
up_to zero = 0
up_to (suc n) = up_to n + suc n

-- what is answered to the first n additions of 1, 2 and so on to a counter that stands at `start`, with nothing added between them
abbrev pub sums_of : ℕ → ℕ → List (Answer Counter CounterOp CounterReply CounterTask)
sums_of start zero = []
sums_of start (suc n) = sums_of start n ++ Replied (Is (start + up_to (suc n))) ∷ []

-- answers to such additions came in order: the counter stood at a number from `before` on, and ends at `last`
pub record CameInOrder (before : ℕ) (answers : List (Answer Counter CounterOp CounterReply CounterTask)) (last : ℕ) : Type 0 where
  pub start : ℕ
  pub since : before ≤ start
  pub sums : answers ≡ sums_of start (length answers)
  pub is_last : last ≡ start + up_to (length answers)

-- a fact that holds unless a look found that the answers are still to come
abbrev pub UnlessPending : {V O R T : Type 0} → Collected V O R T → Type 0 → Type 0
UnlessPending Pending P = Unit {0}
UnlessPending (Answers a) P = P
UnlessPending Idle P = P

module _ {Table Client Owner : Type 0} (theory : Theory Counter CounterOp CounterReply CounterTask Table Client Owner) where
  -- a client's side, whose place holds the counter at first, asked nothing but operations on it
  pub record HasAsked (table : Table) (side : Client) : Type 0 where
    pub mine : theory.HasClient table side
    pub client : (theory.client_view side).place < (theory.opening table).setup.config.clients
    pub holds : 0 < holds_at (theory.opening table) (theory.client_view side).place 1
    pub sent : AllByRecursion IsOfCounter (theory.client_view side).sent

  -- and nothing of it is out
  abbrev pub MayAsk : Table → Client → Type 0
  MayAsk table side = HasAsked table side × ((theory.client_view side).out ≡ None)

  -- so may all clients, at their handles and sides
  abbrev pub AreSeats : List (Table × Client) → Type 0
  AreSeats seats = All (λ seat. MayAsk seat.0 seat.1) seats
