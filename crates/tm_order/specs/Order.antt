-- In which order the operations that launched work asks are asked, and are run: the definitions, and the statements, each proved as the contract of a
-- function.
use Rattle.std.specs.Prelude.{◌≡◌, ℕ, ◌+◌, ◌<◌, ◌==◌, List, map, filter, slice_get}
use Rattle.std.specs.List.Sorted.{IsNonDecreasing}
use Rattle.std.specs.declared.option.Option.TheVariants.{Some}
use Rattle.tm_seq.specs.Kind.{Kind}
use Rattle.tm_batch.specs.declared.config.Config.{Config}
use Rattle.tm_batch.specs.declared.config.First.{First}
use Rattle.tm_model.specs.Lists.{IsPrefix}
use Rattle.tm_model.specs.Opening.{opening_of}
use Rattle.tm_laws.specs.Objects.{Run, runs_for}
use Rattle.tm_pair.specs.Plain.{trustee_at, plain_theory}
use Rattle.tm_trustee.specs.NestedAsks.{NestedAsk, target, asks_of}
use Rattle.tm_trustee.specs.Serving.{done_by}
use Rattle.tm_turns.specs.Whole.{OneTrustee, AreOf}
use Rattle.tm_turns.specs.declared.turns.Turns.{Turns}

-- the id of the object on which an operation was run, and the operation
abbrev pub run_target : {O R : Type 0} → Run O R → ℕ × O
run_target r = (r.id, r.op)

-- the tickets of those of some asks that launched work on the object of an id made, in order
abbrev pub tickets_by : {O : Type 0} → ℕ → List (NestedAsk O) → List ℕ
tickets_by id asks = map (λ a. a.ticket) (filter (λ a. a.by == id) asks)

module _ {V O R T : Type 0} (kind : Kind V O R T) (config : Config) (first : List (First V)) where
  -- what the launched work of trustee t has asked of trustee u, in order
  abbrev pub asked_of : ℕ → OneTrustee V O R T → ℕ → List (NestedAsk O)
  asked_of t trustee u = asks_of (opening_of {V = V} {O = O} {R = R} {T = T} t config first).setup u (done_by (plain_theory kind) trustee)

  -- of what was run, the operations that launched work on one object asked stand in the order of its launches
  pub record RunInOrder (t : ℕ) (trustee : OneTrustee V O R T) (u : ℕ) (runs : List (Run O R)) : Type 0 where
    -- the asks that have run: these operations, the first that were asked
    pub asks : List (NestedAsk O)
    pub are : map target asks ≡ map run_target runs
    pub front : IsPrefix asks (asked_of t trustee u)
    -- the tickets of those of one object never fall
    pub rise : (id : ℕ) → IsNonDecreasing (tickets_by id asks)

-- what launched work on one object has asked of one greater trustee stands in the order of its launches
abbrev pub AsksRise : {V O R T : Type 0} → Type 0 → Kind V O R T → Type 0
AsksRise {V} {O} {R} {T} C kind =
    (config : Config) (first : List (First V)) (turns : Turns V C O R T) (t u id : ℕ) (trustee : OneTrustee V O R T) → AreOf kind config first turns
    → slice_get turns.trustees.items t ≡ Some trustee → IsNonDecreasing (tickets_by id (asked_of kind config first t trustee u))

-- what trustee u has run for the place of trustee t is a front of what that one's launched work has asked of it, in order
abbrev pub RunsAreAsks : {V O R T : Type 0} → Type 0 → Kind V O R T → Type 0
RunsAreAsks {V} {O} {R} {T} C kind =
    (config : Config) (first : List (First V)) (turns : Turns V C O R T) (t u : ℕ) (trustee greater : OneTrustee V O R T) → AreOf kind config first turns
    → t < u → slice_get turns.trustees.items t ≡ Some trustee → slice_get turns.trustees.items u ≡ Some greater
    → IsPrefix (map run_target (runs_for (config.clients + t) (trustee_at greater.side).log)) (map target (asked_of kind config first t trustee u))

-- so what was run is in that order
abbrev pub LaunchedRunsRise : {V O R T : Type 0} → Type 0 → Kind V O R T → Type 0
LaunchedRunsRise {V} {O} {R} {T} C kind =
    (config : Config) (first : List (First V)) (turns : Turns V C O R T) (t u : ℕ) (trustee greater : OneTrustee V O R T) → AreOf kind config first turns
    → t < u → slice_get turns.trustees.items t ≡ Some trustee → slice_get turns.trustees.items u ≡ Some greater
    → RunInOrder kind config first t trustee u (runs_for (config.clients + t) (trustee_at greater.side).log)
