-- What a whole is while no request of a client counts: the definitions, and the statement, proved as the contract of a function.
use Rattle.std.specs.Prelude.{◌≡◌, ℕ, ◌+◌, ◌<◌, false, List, [], ◌∷◌, length, slice_get}
use Rattle.std.specs.List.{AllByRecursion}
use Rattle.std.specs.declared.option.Option.TheVariants.{Some}
use Rattle.tm_seq.specs.Kind.{Kind}
use Rattle.tm_batch.specs.declared.config.Config.{Config}
use Rattle.tm_batch.specs.declared.config.First.{First}
use Rattle.tm_model.specs.Serve.{state_after}
use Rattle.tm_model.specs.Legal.{IsLegal}
use Rattle.tm_model.specs.Lists.{IsPrefix}
use Rattle.tm_model.specs.Orderly.{IsOfTrustee}
use Rattle.tm_model.specs.Ran.{ran}
use Rattle.tm_model.specs.Opening.{opening_of}
use Rattle.tm_laws.specs.Objects.{Run, runs_for}
use Rattle.tm_pair.specs.Plain.{client_at, trustee_at}
use Rattle.tm_trustee.specs.NestedAsks.{NestedAsk, ToldReply, asks_of, replies_of}
use Rattle.tm_turns.specs.Whole.{OneLane, OneTrustee, HasLane, AreOf}
use Rattle.tm_turns.specs.declared.turns.Turns.{Turns}
use Rattle.tm_course.specs.Courses.{NoneWorks}

-- the operations that some asks are, with the replies that were told to them, position by position
abbrev pub asks_told : {O R : Type 0} → List (NestedAsk O) → List (ToldReply R) → List (Run O R)
asks_told [] told = []
asks_told (ask ∷ asks) [] = []
asks_told (ask ∷ asks) (t ∷ told) = record { id = ask.id; op = ask.op; reply = t.reply } ∷ asks_told asks told

module _ {V C O R T : Type 0} where
  -- no request of a client counts at any trustee, and no client was closed for one
  abbrev pub NothingCounts : Turns V C O R T → Type 0
  NothingCounts turns = (c t : ℕ) (lane : OneLane V C O R T) → HasLane turns c t lane → (lane.counting ≡ 0) × (lane.closing ≡ false)

  -- what trustee t is then
  pub record IsIdle (kind : Kind V O R T) (config : Config) (first : List (First V)) (turns : Turns V C O R T) (t : ℕ) (trustee : OneTrustee V O R T) : Type 0 where
    -- its log is legal, and leaves no launch unfinished
    pub is_legal : IsLegal kind (opening_of t config first) (trustee_at trustee.side).log
    pub works : NoneWorks (state_after kind (opening_of t config first) (trustee_at trustee.side).log)
    -- it has run all that a client sent, and the client has seen a front of its log
    pub ran_all : (c : ℕ) (lane : OneLane V C O R T) → HasLane turns c t lane → ran c (trustee_at trustee.side).log ≡ (client_at lane.side).sent
    pub seen : (c : ℕ) (lane : OneLane V C O R T) → HasLane turns c t lane → IsPrefix (client_at lane.side).seen (trustee_at trustee.side).log
    -- each place is that of a client, or of a lower trustee, of which it has run what that one's launched work asked here, with the replies that it
    -- was told, and nothing else but a Bye
    pub nested : (u : ℕ) (lower : OneTrustee V O R T) → u < t → slice_get turns.trustees.items u ≡ Some lower
        → runs_for (config.clients + u) (trustee_at trustee.side).log
        ≡ asks_told (asks_of (opening_of {V = V} {O = O} {R = R} {T = T} u config first).setup t (trustee_at lower.side).log) (replies_of kind (opening_of u config first) t (trustee_at lower.side).log)
    pub told : (u : ℕ) (lower : OneTrustee V O R T) → u < t → slice_get turns.trustees.items u ≡ Some lower
        → length (replies_of kind (opening_of u config first) t (trustee_at lower.side).log)
        ≡ length (asks_of (opening_of {V = V} {O = O} {R = R} {T = T} u config first).setup t (trustee_at lower.side).log)
    pub only : (u : ℕ) → u < t → AllByRecursion IsOfTrustee (ran (config.clients + u) (trustee_at trustee.side).log)

-- so each trustee is where no request counts
abbrev pub RestsAreIdle : {V O R T : Type 0} → Type 0 → Kind V O R T → Type 0
RestsAreIdle {V} {O} {R} {T} C kind =
    (config : Config) (first : List (First V)) (turns : Turns V C O R T) (t : ℕ) (trustee : OneTrustee V O R T) → AreOf kind config first turns
    → NothingCounts turns → slice_get turns.trustees.items t ≡ Some trustee → IsIdle kind config first turns t trustee
