-- What closing everything does.
use Rattle.std.specs.Prelude.{◌≡◌, ℕ, zero, suc, ◌+◌, ◌-◌, ◌^◌, ◌<◌, min, Bool, true, false, List, [], ◌∷◌, ◌++◌, length, map, slice_get}
use Rattle.std.specs.List.{AllByRecursion}
use Rattle.std.specs.declared.option.Option.TheVariants.{Some}
use Rattle.tm_seq.specs.Kind.{Kind}
use Rattle.tm_batch.specs.declared.message.Request.{Request}
use Rattle.tm_batch.specs.declared.message.Request.TheVariants.{Bye}
use Rattle.tm_model.specs.Lists.{IsPrefix}
use Rattle.tm_model.specs.Orderly.{IsOfTrustee}
use Rattle.tm_model.specs.Ran.{ran}
use Rattle.tm_state.specs.Represents.{requests_in}
use Rattle.tm_pair.specs.Plain.{opening_at, client_at, trustee_at, plain_theory}
use Rattle.tm_pair.specs.declared.plain.PlainTable.{PlainTable}
use Rattle.tm_trustee.specs.NestedAsks.{target, asks_of, asked_by, EndsInBye}
use Rattle.tm_trustee.specs.Serving.{done_by, ups_of, TellsRun}
use Rattle.tm_trustee.specs.Turn.{HasEnded}
use Rattle.tm_client.specs.Asking.{KeepsRest}
use Rattle.tm_client.specs.Lanes.{accepted}
use Rattle.tm_client.specs.Marking.{marked}
use Rattle.tm_client.specs.Taking.{HasTaken}
use Rattle.tm_client.specs.declared.answers.Got.{Got}
use Rattle.tm_client.specs.declared.books.Books.{Books}
use Rattle.tm_turns.specs.Whole.{OneLane, OneTrustee, HasLane, Keeps, EachClient}
use Rattle.tm_turns.specs.Going.{HasRun}
use Rattle.tm_turns.specs.Resting.{AreAtRest}
use Rattle.tm_turns.specs.declared.turns.Turns.{Turns}

module _ {V C D O R T : Type 0} where
  -- `close` was called of a client at each trustee, and nothing else
  pub record HasShut (old new : Books V C D O R T) : Type 0 where
    pub lanes : new.lanes.items ≡ map (λ lane. marked lane.fetching true lane) old.lanes.items
    pub coming : new.coming ≡ old.coming
    pub rest : KeepsRest old new

  -- the first n of what arrived at a client were taken, one after another
  unfoldable pub TakesFirst : ℕ → Books V C D O R T → Books V C D O R T → Type 0
  TakesFirst zero old new = new ≡ old
  TakesFirst (suc n) old new =
      (mid : Books V C D O R T) × (after : C) × (got : Got V O R T) × TakesFirst n old mid × HasTaken after got mid new

  -- the first of it was taken, or nothing was there
  abbrev pub TakesOne : Bool → Books V C D O R T → Books V C D O R T → Type 0
  TakesOne true old new = (after : C) × (got : Got V O R T) × HasTaken after got old new
  TakesOne false old new = (old.arrived.items ≡ []) × (new ≡ old)

  -- all of it was taken
  pub record HasTakenAll (old new : Books V C D O R T) : Type 0 where
    pub count : ℕ
    pub takes : TakesFirst count old new
    pub none : new.arrived.items ≡ []

module _ {V O R T : Type 0} where
  -- what was run of a trustee's place at a greater one is all that its work asked there, in order, then its Bye, and nothing else
  pub record HasRunAsks (asks : List (ℕ × O)) (run : List (Request V O R T)) : Type 0 where
    pub only : AllByRecursion IsOfTrustee run
    pub all : asked_by run ≡ asks
    pub last : EndsInBye run

  -- numbers are, in order, those of the requests in the logs of trustees
  pub record AreRuns (kind : Kind V O R T) (trustees : List (OneTrustee V O R T)) (numbers : List ℕ) : Type 0 where
    pub as_many : length numbers ≡ length trustees
    pub each : (t n : ℕ) (trustee : OneTrustee V O R T) → slice_get trustees t ≡ Some trustee → slice_get numbers t ≡ Some n
        → TellsRun (plain_theory kind) kind trustee n

module _ {V C O R T : Type 0} where
  abbrev pub ClientsShut : Turns V C O R T → Turns V C O R T → Type 0
  ClientsShut old new = EachClient (λ client becomes. HasShut client.books becomes.books) old new

  abbrev pub ClientsTake : Turns V C O R T → Turns V C O R T → Type 0
  ClientsTake old new = EachClient (λ client becomes. HasTakenAll client.books becomes.books) old new

  -- each client was closed at each trustee, turns were made until nothing moved, the answers that came were taken, and again turns were
  -- made until nothing moved, which left `last`
  pub record HasClosed (kind : Kind V O R T) (old last : Turns V C O R T) (numbers : List ℕ) : Type 0 where
    pub shut : Turns V C O R T
    pub served : Turns V C O R T
    pub taken : Turns V C O R T
    pub moved : ℕ
    pub more : ℕ
    pub shuts : ClientsShut old shut
    pub serves : HasRun kind [] moved shut served
    pub takes : ClientsTake served taken
    pub ends : HasRun kind [] more taken last
    -- all is of its build still, and at rest
    pub keeps : Keeps kind old last
    pub rest : AreAtRest kind last
    -- every trustee has ended, and its log only grew
    pub ended : (t : ℕ) (trustee : OneTrustee V O R T) (table : PlainTable V O R T) → slice_get last.trustees.items t ≡ Some trustee
        → slice_get last.tables.items t ≡ Some table → HasEnded (opening_at table) (trustee_at trustee.side) (ups_of (plain_theory kind) trustee)
    pub logs : (t : ℕ) (trustee becomes : OneTrustee V O R T) → slice_get old.trustees.items t ≡ Some trustee → slice_get last.trustees.items t ≡ Some becomes
        → IsPrefix (trustee_at trustee.side).log (trustee_at becomes.side).log
    -- what a trustee has run of a client is all that the client had asked of it, whether it was sent or waited, in order, each once, and then
    -- the client's Bye
    pub asked : (c t : ℕ) (lane : OneLane V C O R T) (trustee : OneTrustee V O R T) → HasLane old c t lane → slice_get last.trustees.items t ≡ Some trustee
        → ran c (trustee_at trustee.side).log ≡ accepted client_at lane ++ Bye ∷ []
    -- and what trustee u has run of a lower trustee t, whose place follows the clients', is all that the work there asked of it, and then its Bye
    pub nested : (t u : ℕ) (lower upper : OneTrustee V O R T) (table : PlainTable V O R T) → t < u → slice_get last.trustees.items t ≡ Some lower
        → slice_get last.tables.items t ≡ Some table → slice_get last.trustees.items u ≡ Some upper
        → HasRunAsks (map target (asks_of (opening_at table).setup u (done_by (plain_theory kind) lower)))
        (ran (length old.clients.items + t) (trustee_at upper.side).log)
    -- how many requests each trustee has run in all, as a `u64` counts them
    pub as_many : length numbers ≡ length old.trustees.items
    pub counts : (t n : ℕ) (trustee : OneTrustee V O R T) → slice_get last.trustees.items t ≡ Some trustee → slice_get numbers t ≡ Some n
        → n ≡ min (requests_in (trustee_at trustee.side).log) (2 ^ 64 - 1)

  -- there is such an end
  abbrev pub Closes : Kind V O R T → Turns V C O R T → List ℕ → Type 0
  Closes kind old numbers = (last : Turns V C O R T) × HasClosed kind old last numbers
