-- What holds of all legal logs in the eyes of one place, which knows no more than what it has seen: the statements, each proved as the
-- contract of a function that cites it.
use Rattle.std.specs.Prelude.{◌≡◌, ◌≢◌, ℕ, ◌+◌, ◌-◌, ◌^◌, ◌<◌, ◌≤◌, ◌⊎◌, ◌==◌, min, true, cond, List, [], ◌∷◌, ◌++◌, length}
use Rattle.std.specs.List.{AllByRecursion, AllZip, Contains, list_any}
use Rattle.std.specs.List.Sorted.{IsStrictlyIncreasing}
use Rattle.tm_seq.specs.Kind.{Kind}
use Rattle.tm_batch.specs.declared.config.Config.{Config}
use Rattle.tm_batch.specs.declared.config.First.{First}
use Rattle.tm_batch.specs.declared.message.Answer.TheVariants.{Launched}
use Rattle.tm_batch.specs.declared.message.AnswerBatch.{AnswerBatch}
use Rattle.tm_model.specs.declared.entry.Entry.{Entry}
use Rattle.tm_model.specs.declared.entry.Entry.TheVariants.{Sent}
use Rattle.tm_model.specs.State.{State, place_of, place_count, holds_at, IsHeld}
use Rattle.tm_model.specs.Opening.{is_named, placed_on, ids_at, opening_of}
use Rattle.tm_model.specs.Serve.{state_after}
use Rattle.tm_model.specs.Legal.{IsLegal}
use Rattle.tm_model.specs.Lists.{IsPrefix}
use Rattle.tm_model.specs.Slots.{slot_of}
use Rattle.tm_model.specs.GoodSlots.{IsSettled, IsCutAt}
use Rattle.tm_model.specs.Ran.{mark_of, ran, answered}
use Rattle.tm_model.specs.Batches.{batches}
use Rattle.tm_model.specs.Holds.{has_bye, launches_in, gave, gifts_of, answers_in, ended_in, came, held, unfinished}
use Rattle.tm_model.specs.Fits.{Fits}
use Rattle.tm_model.specs.Good.{FullCore, IsGood}
use Rattle.tm_model.specs.Laws.{IsOpening}

module _ {V O R T : Type 0} where
  -- what an opening state that is made of a list gives place c: one hold on each of the ids that the list has for it, and on no other
  pub record OpeningGives (opening : State V O R T) (number c : ℕ) (first : List (First V)) : Type 0 where
    pub holds : (id : ℕ) → holds_at opening c id ≡ cond (list_any (λ i. i == id) (ids_at number c first)) 1 0
    pub rising : IsStrictlyIncreasing (ids_at number c first)
    pub range : AllByRecursion (λ id. (1 ≤ id) × (id < opening.next_id)) (ids_at number c first)
    -- the object of an id is the id-th that the list places on the trustee, from 1
    pub named : (before after : List (First V)) (f : First V) → placed_on number first ≡ before ++ f ∷ after
        → holds_at opening c (length before + 1) ≡ cond (is_named c f) 1 0

  -- what a place holds by what it sent and got is what the state holds for it, less the gifts that wait
  pub record TellsHolds (kind : Kind V O R T) (opening : State V O R T) (c : ℕ) (log : List (Entry V O R T)) (s : State V O R T) : Type 0 where
    pub holds : (id : ℕ)
        → holds_at s c id + gave id (ran c log)
        ≡ came opening c (ran c log) (batches kind opening c log) id + gifts_of id (place_of s c).gifts
    pub most : (id : ℕ) → held opening c (ran c log) (batches kind opening c log) id ≤ holds_at s c id
    pub live : (id : ℕ) → 1 ≤ held opening c (ran c log) (batches kind opening c log) id → IsHeld s c id
    -- each launch is unfinished, ready, or ended by what came
    pub launches : launches_in (ran c log) ≡ unfinished c s.live + length (place_of s c).ready + ended_in (batches kind opening c log)

  -- what the opening gives each place
  abbrev pub OpeningsGive : Kind V O R T → Type 0
  OpeningsGive kind =
      (opening : State V O R T) (number : ℕ) (config : Config) (first : List (First V)) (c : ℕ)
      → opening ≡ opening_of number config first → c < place_count opening.setup → OpeningGives opening number c first

  module _ (kind : Kind V O R T) where
    -- a log ends with the leaving of the last of what place c got, or is empty where that is nothing
    abbrev pub IsCut : State V O R T → ℕ → List (AnswerBatch V O R T) → List (Entry V O R T) → Type 0
    IsCut opening c got log = IsCutAt mark_of (batches kind opening) (IsLegal kind opening) c got log

    -- as many answers came as requests were run, and they are the answers to these
    abbrev pub AnswersAreAsMany : Type 0
    AnswersAreAsMany =
        (opening : State V O R T) (log : List (Entry V O R T)) (c : ℕ) (got : List (AnswerBatch V O R T)) → IsCut opening c got log
        → IsSettled mark_of c log
        × (answers_in (batches kind opening c log) ≡ answered c log)
        × (length (answers_in (batches kind opening c log)) ≡ length (ran c log))

    -- request and answer of one position fit
    abbrev pub AnswersFit : Type 0
    AnswersFit =
        (opening : State V O R T) (log : List (Entry V O R T)) (c : ℕ) (got : List (AnswerBatch V O R T))
        → IsLegal kind opening log → IsCut opening c got log
        → AllZip Fits (ran c log) (answers_in (batches kind opening c log))

    -- before its Bye a log alone tells what a place holds
    abbrev pub LogsTellHolds : Type 0
    LogsTellHolds =
        (opening : State V O R T) (log : List (Entry V O R T)) (c : ℕ) (got : List (AnswerBatch V O R T))
        → IsOpening opening → IsLegal kind opening log
        → c < place_count opening.setup → IsCut opening c got log → has_bye (ran c log) ≢ true
        → TellsHolds kind opening c log (state_after kind opening log)

    -- each answer batch left by the last entry of a front of the log, whose length it tells, and what left by that front are the
    -- batches up to it
    abbrev pub BatchesLeaveAtFronts : Type 0
    BatchesLeaveAtFronts =
        (opening : State V O R T) (log : List (Entry V O R T)) (c : ℕ) (before after : List (AnswerBatch V O R T)) (a : AnswerBatch V O R T)
        → batches kind opening c log ≡ before ++ a ∷ after
        → (front : List (Entry V O R T)) × (room : ℕ) × IsPrefix (front ++ Sent c room ∷ []) log
        × (batches kind opening c (front ++ Sent c room ∷ []) ≡ before ++ a ∷ [])
        × (a.front ≡ min (length (front ++ Sent c room ∷ [])) (2 ^ 64 - 1))

    -- the ticket of each completion came with the answers up to those of its batch
    abbrev pub TicketsComeFirst : Type 0
    TicketsComeFirst =
        (opening : State V O R T) (log : List (Entry V O R T)) (c : ℕ) (before after : List (AnswerBatch V O R T)) (a : AnswerBatch V O R T)
        → IsOpening opening → IsLegal kind opening log → c < place_count opening.setup
        → batches kind opening c log ≡ before ++ a ∷ after
        → AllByRecursion (λ x. Contains (answers_in (before ++ a ∷ [])) (Launched x.ticket)) a.completions.items

    -- of two fronts of the log of a good core one begins the other, what a front ran for a place begins what the place sent, and what a
    -- place has seen is a front
    abbrev pub FrontsAgree : Type 0
    FrontsAgree =
        (opening : State V O R T) (core : FullCore V O R T) (front other : List (Entry V O R T)) (c : ℕ) → IsGood kind opening core
        → IsPrefix front core.log → IsPrefix other core.log → c < length core.slots
        → (IsPrefix front other ⊎ IsPrefix other front)
        × IsLegal kind opening front
        × IsPrefix (ran c front) (slot_of core c).sent
        × IsPrefix (slot_of core c).seen core.log
