-- How a trustee goes on with launched work.
use Rattle.std.specs.Prelude.{◌≡◌, ◌≢◌, ℕ, ◌+◌, ◌-◌, ◌^◌, ◌<◌, ◌≤◌, min, List, [], ◌∷◌, ◌++◌, length, slice_get, slice_set}
use Rattle.std.specs.declared.option.Option.TheVariants.{Some}
use Rattle.tm_seq.specs.Kind.{Kind}
use Rattle.tm_batch.specs.declared.message.Name.{Name}
use Rattle.tm_batch.specs.declared.message.Request.TheVariants.{Apply}
use Rattle.tm_model.specs.declared.entry.Entry.{Entry}
use Rattle.tm_model.specs.Entries.{AreResumes}
use Rattle.tm_model.specs.State.{State}
use Rattle.tm_latch.specs.declared.ticket.Ticket.{Ticket}
use Rattle.tm_pair.specs.Views.{ClientView}
use Rattle.tm_state.specs.Launches.{Pending}
use Rattle.tm_state.specs.Resuming.{AreHeld}
use Rattle.tm_state.specs.StateView.{StateView}
use Rattle.tm_state.specs.declared.made.Made.{Made}
use Rattle.tm_state.specs.declared.resumed.Resumed.{Resumed}
use Rattle.tm_state.specs.declared.resumed.Resumed.TheVariants.{Asked, Ended}
use Rattle.tm_trustee.specs.Above.{IsAt}
use Rattle.tm_trustee.specs.Awaiting.{AreAwaited, AreIdle}
use Rattle.tm_trustee.specs.Serving.{IsCurrent, AreLanes, AreSaid}
use Rattle.tm_trustee.specs.declared.lane.Lane.{Lane}

module _ {V O R T : Type 0} where
  -- an ask waits at a lane, and its launch for the reply
  pub record AsksAt (index : ℕ) (op : O) (launch : Ticket (Pending T)) (lane becomes : Lane V O R T) : Type 0 where
    pub stage : becomes.stage ≡ lane.stage
    pub names : becomes.names ≡ lane.names
    pub came : becomes.came ≡ lane.came
    pub askers : becomes.askers.items ≡ lane.askers.items ++ launch ∷ []
    pub askers_room : becomes.askers.capacity ≡ lane.askers.capacity
    pub asks : (name : Name) × (slice_get lane.names.items index ≡ Some name) × (becomes.waits.items ≡ lane.waits.items ++ Apply name op ∷ [])
    pub waits_room : becomes.waits.capacity ≡ lane.waits.capacity

  -- there is room for it
  pub record HasPlace (index : ℕ) (lane : Lane V O R T) : Type 0 where
    pub name : index < length lane.names.items
    pub askers : length lane.askers.items < lane.askers.capacity
    pub waits : length lane.waits.items < lane.waits.capacity

  -- the first reply that came, and the launch that asked, were taken
  pub record TakesReply (launch : Ticket (Pending T)) (reply : R) (lane becomes : Lane V O R T) : Type 0 where
    pub stage : becomes.stage ≡ lane.stage
    pub names : becomes.names ≡ lane.names
    pub waits : becomes.waits ≡ lane.waits
    pub came : lane.came.items ≡ reply ∷ becomes.came.items
    pub came_room : becomes.came.capacity ≡ lane.came.capacity
    pub askers : lane.askers.items ≡ launch ∷ becomes.askers.items
    pub askers_room : becomes.askers.capacity ≡ lane.askers.capacity

  -- a lane has as many launches that asked as replies came, at least
  abbrev pub HasAskers : ℕ → List (Lane V O R T) → Type 0
  HasAskers i lanes = (lane : Lane V O R T) → slice_get lanes i ≡ Some lane → length lane.came.items ≤ length lane.askers.items

  -- no reply that came at it is left to tell
  abbrev pub IsToldAt : ℕ → List (Lane V O R T) → Type 0
  IsToldAt i lanes = (lane : Lane V O R T) → slice_get lanes i ≡ Some lane → lane.came.items ≡ []

  -- the first reply that came at it, and the launch that asked, were taken
  abbrev pub TakesAt : ℕ → Ticket (Pending T) → R → List (Lane V O R T) → List (Lane V O R T) → Type 0
  TakesAt i launch reply old new =
      (lane : Lane V O R T) × (mid : Lane V O R T) × (slice_get old i ≡ Some lane) × TakesReply launch reply lane mid × (new ≡ slice_set old i mid)

  -- what a launch did last can be noted: where it asks, the lane is there and has room
  abbrev pub MayNote : ℕ → Resumed V O R T → List (Lane V O R T) → Type 0
  MayNote number Ended lanes = Unit {0}
  MayNote number (Asked u x op launch) lanes =
      (number < u) × ((lane : Lane V O R T) × (slice_get lanes (u - (number + 1)) ≡ Some lane) × HasPlace x lane)

  -- it was noted
  abbrev pub Notes : ℕ → Resumed V O R T → List (Lane V O R T) → List (Lane V O R T) → Type 0
  Notes number Ended lanes new = new ≡ lanes
  Notes number (Asked u x op launch) lanes new =
      (lane : Lane V O R T) × (becomes : Lane V O R T) × (slice_get lanes (u - (number + 1)) ≡ Some lane) × AsksAt x op launch lane becomes
      × (new ≡ slice_set lanes (u - (number + 1)) becomes)

  -- what of a trustee goes on with launched work, by the log of its side and what its sides above stand for
  pub record AreGoing (kind : Kind V O R T) (opening : State V O R T) (log : List (Entry V O R T)) (ups : List (ClientView V O R T)) (number : ℕ)
      (held : List ℕ) (since : List (Entry V O R T)) (h : StateView V O R T) (lanes : List (Lane V O R T)) : Type 0 where
    pub numbered : number ≡ opening.setup.number
    pub holds : AreHeld opening.setup held
    pub sides : number + 1 + length ups ≡ opening.setup.config.trustees
    pub as_many : length lanes ≡ length ups
    pub at : (i : ℕ) (lane : Lane V O R T) (up : ClientView V O R T) → slice_get lanes i ≡ Some lane → slice_get ups i ≡ Some up → IsAt lane.stage up
    pub current : IsCurrent kind opening log since h
    pub awaited : AreAwaited kind opening (log ++ since)
    pub kept : AreLanes kind opening (log ++ since) (number + 1) ups lanes
    pub idle : AreIdle kind opening log
    pub said : AreSaid opening log lanes

  -- whatever its log and its sides are, it goes on with more entries behind its log
  abbrev pub GoesOnWith :
      Kind V O R T → ℕ → List ℕ → List (Entry V O R T) → List (Entry V O R T) → StateView V O R T → StateView V O R T
      → List (Lane V O R T) → List (Lane V O R T) → Type 0
  GoesOnWith kind number held since more h new lanes becomes =
      (opening : State V O R T) (log : List (Entry V O R T)) (ups : List (ClientView V O R T))
      → AreGoing kind opening log ups number held since h lanes → AreGoing kind opening log ups number held more new becomes

  -- all lanes but one have the replies that had come
  abbrev pub SameCame : ℕ → List (Lane V O R T) → List (Lane V O R T) → Type 0
  SameCame i old new =
      (k : ℕ) (was now : Lane V O R T) → slice_get old k ≡ Some was → slice_get new k ≡ Some now → k ≢ i → now.came.items ≡ was.came.items

  -- resumes were made, and counted as a `u64` counts them
  abbrev pub MadeMore : Made V O R T → Made V O R T → Type 0
  MadeMore old new =
      (es : List (Entry V O R T)) × AreResumes es × (new.entries.items ≡ old.entries.items ++ es)
      × (old.count < 2 ^ 64 → new.count ≡ min (old.count + length es) (2 ^ 64 - 1))

  abbrev pub ResumesMade : List (Entry V O R T) → List (Entry V O R T) → ℕ → Type 0
  ResumesMade old new n = (es : List (Entry V O R T)) × (new ≡ old ++ es) × AreResumes es × (n ≡ min (length es) (2 ^ 64 - 1))

-- there are such a log and such sides
abbrev pub IsGoingOn :
    (V O R T : Type 0) → Kind V O R T → ℕ → List ℕ → List (Entry V O R T) → StateView V O R T → List (Lane V O R T) → Type 0
IsGoingOn V O R T kind number held since h lanes =
    (opening : State V O R T) × (log : List (Entry V O R T)) × (ups : List (ClientView V O R T)) × AreGoing kind opening log ups number held since h lanes
