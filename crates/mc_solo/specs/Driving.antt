-- What holds of a session and the whole between two of its steps, and how near it is to its end.
use Rattle.std.specs.Prelude.{◌≡◌, ℕ, ◌+◌, ◌*◌, ◌^◌, ◌<◌, ◌≤◌, ◌⊎◌, List, [], ◌∷◌, length, slice_get, Option, None, Some}
use Rattle.tm_client.specs.declared.trust.Trust.{Trust}
use Rattle.tm_asking.specs.Asking.{AllOpen}
use Rattle.tm_turns.specs.Whole.{AreTurns}
use Rattle.tm_turns.specs.Driving.{Awaits, IsToDrive}
use Rattle.mc_next.specs.declared.ended.Ended.{Ended}
use Rattle.mc_next.specs.declared.ended.Stepped.{Stepped}
use Rattle.mc_next.specs.declared.ended.Stepped.TheVariants.{Moved, Waiting}
use Rattle.mc_next.specs.declared.session.Session.{Session}
use Rattle.mc_next.specs.Parts.{StoreView, store_kind}
use Rattle.mc_next.specs.Clients.{AreStoreTrusts}
use Rattle.mc_next.specs.Runs.{Setting, SessionView}
use Rattle.mc_next.specs.Sessions.{IsOf, IsSession, HasEndedSo, seen}
use Rattle.mc_next.specs.Steps.{before_of, IsLess}
use Rattle.mc_solo.specs.Serving.{StoreTurns, StoreClient, store_view, AreMarked, GoesOn, last_state}

-- since one state of the whole: the states at which client `place` stood at these marks, and the last of them went on to the state now
pub record HasMarks (place : ℕ) (start now : StoreTurns) (marks : List (ℕ → StoreView)) : Type 0 where
  pub states : List StoreTurns
  pub marked : AreMarked place start states marks
  pub since : GoesOn place (last_state start states) now

-- the whole is of one build, and the session is one of client `place` by these trusts, which began when client and devices told `first` and the
-- whole stood as `start`, and its marks are the client's sides at states of the whole since
pub record IsDriven (s : Setting) (first : SessionView) (start : StoreTurns) (place : ℕ) (trusts : List Trust) (session : Session) (turns : StoreTurns)
    (left readings written : Option (List ℕ)) : Type 0 where
  pub are : AreTurns store_kind turns
  pub client : StoreClient
  pub of_client : slice_get turns.clients.items place ≡ Some client
  pub are_trusts : AreStoreTrusts (length turns.tables.items) client.books trusts
  pub all_open : AllOpen client.books
  pub is_of : IsOf s trusts (length turns.tables.items)
  pub marks : List (ℕ → StoreView)
  pub marked : HasMarks place start turns marks
  pub holds : IsSession store_view s marks session first (seen store_view client.books left readings written) client.books

-- a session is over so because it stopped, or because its input ended
abbrev pub HasStopped : Ended → Session → Type 0
HasStopped ended session = (session.stopped ≡ Some ended) ⊎ ((session.stopped ≡ None) × HasEndedSo ended session)

-- one, where something is in a list
abbrev pub one_in : {X : Type 0} → List X → ℕ
one_in [] = 0
one_in (x ∷ xs) = 1

-- one, where something arrived at a client and was not taken
abbrev pub arrived_in : Option StoreClient → ℕ
arrived_in None = 0
arrived_in (Some client) = one_in client.books.arrived.items

-- by a number that tells how much is still to do while client `place` is driven: how far the whole is from its next answer
abbrev pub still_to_go : ℕ → (StoreTurns → ℕ) → StoreTurns → ℕ
still_to_go place to_drive turns = 2 * to_drive turns + arrived_in (slice_get turns.clients.items place)

-- less is before the session; or as much, and less is to go
abbrev pub HasGoneOn : ℕ → Session → Session → StoreTurns → StoreTurns → Type 0
HasGoneOn place session session_new turns turns_new =
    (to_drive : StoreTurns → ℕ) → IsToDrive store_kind place to_drive
    → IsLess (before_of session_new) (before_of session)
    ⊎ ((before_of session_new ≡ before_of session) × (still_to_go place to_drive turns_new < still_to_go place to_drive turns))

-- as much is before the session, no more is to go, and answers are awaited at each trustee where a request counts
pub record HasWaited (place : ℕ) (session session_new : Session) (turns turns_new : StoreTurns) : Type 0 where
  pub same : before_of session_new ≡ before_of session
  pub no_more : (to_drive : StoreTurns → ℕ) → IsToDrive store_kind place to_drive → still_to_go place to_drive turns_new ≤ still_to_go place to_drive turns
  pub awaits : Awaits place turns_new

-- what a step did, by what it says
pub record HasStepped (place : ℕ) (stepped : Stepped) (session session_new : Session) (turns turns_new : StoreTurns) : Type 0 where
  pub moved : stepped ≡ Moved → HasGoneOn place session session_new turns turns_new
  pub waits : stepped ≡ Waiting → HasWaited place session session_new turns turns_new

-- The numbers of what is before a session as one: each but the first is below the bound of its type.
abbrev pub folded : List ℕ → ℕ
folded (runs ∷ to_come ∷ unfed ∷ pending ∷ unwritten ∷ unasked ∷ []) =
    ((((runs * 2 ^ 128 + to_come) * 2 ^ 64 + unfed) * 2 + pending) * 2 + unwritten) * 2 ^ 128 + unasked
folded _ = 0

abbrev pub position : Session → ℕ
position session = folded (before_of session)
