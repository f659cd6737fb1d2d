-- What the parts of a turn of tasks do.
use Rattle.std.specs.Prelude.{◌≡◌, ◌≢◌, ℕ, zero, suc, ◌+◌, ◌<◌, ◌≤◌, ◌⊎◌, Bool, true, false, List, [], ◌∷◌, ◌++◌, length, map, vec_capacity, slice_get}
use Rattle.std.specs.List.{All}
use Rattle.std.specs.List.Sorted.{IsNonDecreasingBy}
use Rattle.std.specs.declared.option.Option.TheVariants.{Some}
use Rattle.tm_seq.specs.Kind.{Kind}
use Rattle.tm_batch.specs.declared.limits.TheConstants.{WINDOW}
use Rattle.tm_batch.specs.declared.message.Request.TheVariants.{Apply}
use Rattle.tm_pair.specs.Theory.{Theory}
use Rattle.tm_client.specs.declared.answers.Got.{Got}
use Rattle.tm_client.specs.declared.answers.Turn.{Turn}
use Rattle.tm_client.specs.declared.answers.Turn.TheVariants.{Sent, Pending, Got as GotSome, Idle}
use Rattle.tm_client.specs.declared.books.Books.{Books}
use Rattle.tm_client.specs.declared.trust.Trust.{Trust}
use Rattle.tm_client.specs.Asking.{HasAsked}
use Rattle.tm_task.specs.declared.deed.Deed.{Deed}
use Rattle.tm_task.specs.declared.deed.Deed.TheVariants.{Started, Asked, Resumed}
use Rattle.tm_task.specs.declared.stage.Stage.{Stage}
use Rattle.tm_task.specs.declared.stage.Stage.TheVariants.{Fresh, Asks, Waits}
use Rattle.tm_task.specs.declared.task.Move.{Move}
use Rattle.tm_task.specs.declared.tasks.Tasks.{Tasks}
use Rattle.tm_task.specs.declared.turning.Progress.{Progress}
use Rattle.tm_task.specs.declared.turning.Progress.TheVariants.{Moved, Pending as StillPending, AllEnded}
use Rattle.tm_task.specs.Progressing.{IsSettled, IsUnpassed, moves_in, rank, turns_in, went_in, counting_at, all_pending, world_of}
use Rattle.tm_task.specs.Rules.{Rules}
use Rattle.tm_task.specs.Runs.{Runs}
use Rattle.tm_task.specs.Stages.{IsStarted, IsAsked, IsResumed}

-- a turn of a client sent a batch or got answers
abbrev pub has_gone : Turn → Bool
has_gone (Sent n) = true
has_gone (GotSome n) = true
has_gone Pending = false
has_gone Idle = false

-- a number is more than 0
abbrev pub is_some : ℕ → Bool
is_some zero = false
is_some (suc n) = true

-- what a turn says, by whether all have ended and whether something moved
abbrev pub ProgressOf : Bool → Bool → Progress → Type 0
ProgressOf true moved progress = progress ≡ AllEnded
ProgressOf false true progress = progress ≡ Moved
ProgressOf false false progress = progress ≡ StillPending

module _ {V T U O R K : Type 0} where
  -- the trust that a task names, where it asks or waits, is one of so many
  abbrev pub IsInRange : ℕ → Stage V T U O R K → Type 0
  IsInRange count (Asks i op task) = i < count
  IsInRange count (Waits i task) = i < count
  IsInRange count _ = Unit {0}

  abbrev pub AreInRange : ℕ → List (Stage V T U O R K) → Type 0
  AreInRange count stages = (n : ℕ) (stage : Stage V T U O R K) → slice_get stages n ≡ Some stage → IsInRange count stage

module _ {V T O R K U : Type 0} where
  -- tasks keep their trusts and their room
  pub record KeepsRest (old new : Tasks V T O R K U) : Type 0 where
    pub trusts : new.trusts ≡ old.trusts
    pub room : new.room ≡ old.room
    pub stages_room : vec_capacity new.stages ≡ vec_capacity old.stages
    pub outs : new.outs ≡ old.outs

  abbrev pub IsFreshAt : ℕ → Tasks V T O R K U → Type 0
  IsFreshAt n tasks = (task : T) × (slice_get tasks.stages.items n ≡ Some (Fresh task))

  abbrev pub IsWaitingAt : ℕ → Tasks V T O R K U → Type 0
  IsWaitingAt n tasks = (i : ℕ) × (task : T) × (slice_get tasks.stages.items n ≡ Some (Waits i task))

  module _ (rules : Rules V T U O R K) where
    -- task n was started
    pub record HasStarted (n : ℕ) (old new : Tasks V T O R K U) : Type 0 where
      pub move : Move V T U O R K
      pub told : new.told.items ≡ old.told.items ++ Started n move ∷ []
      pub steps : IsStarted rules (length old.trusts.items) n move old.stages.items new.stages.items
      pub rest : KeepsRest old new

    -- task n went on with an answer
    pub record HasResumed (n : ℕ) (got : Got V O R K) (old new : Tasks V T O R K U) : Type 0 where
      pub move : Move V T U O R K
      pub told : new.told.items ≡ old.told.items ++ Resumed n got move ∷ []
      pub steps : IsResumed rules (length old.trusts.items) n got move old.stages.items new.stages.items
      pub rest : KeepsRest old new

    -- task n was started if it was not, and then only
    abbrev pub MayStart : ℕ → Bool → Tasks V T O R K U → Tasks V T O R K U → Type 0
    MayStart n true old new = HasStarted n old new
    MayStart n false old new = (new ≡ old) × (¬ (IsFreshAt n old))

  module _ {D : Type 0} where
    -- the client accepted what task n was to ask
    pub record HasAskedAt (n : ℕ) (old new : Tasks V T O R K U) (was now : Books V ℕ D O R K) : Type 0 where
      pub i : ℕ
      pub op : O
      pub trust : Trust
      pub told : new.told.items ≡ old.told.items ++ Asked n i op ∷ []
      pub steps : IsAsked n i op old.stages.items new.stages.items
      pub of_trust : slice_get old.trusts.items i ≡ Some trust
      pub room_there : counting_at was trust.trustee < WINDOW
      pub asked : HasAsked trust.trustee (Apply trust.name op) n 0 was now
      pub rest : KeepsRest old new

    -- nothing was asked for task n: it is not to ask, or the window of the trustee is full that it is to ask
    pub record HasNotAsked (n : ℕ) (old new : Tasks V T O R K U) (was now : Books V ℕ D O R K) : Type 0 where
      pub told : new.told.items ≡ old.told.items
      pub stages : new.stages.items ≡ old.stages.items
      pub books : now ≡ was
      pub blocked : (i : ℕ) (op : O) (task : T) → slice_get old.stages.items n ≡ Some (Asks i op task)
          → (trust : Trust) × (slice_get old.trusts.items i ≡ Some trust) × (WINDOW ≤ counting_at was trust.trustee)
      pub rest : KeepsRest old new

    abbrev pub MayAsk : ℕ → Tasks V T O R K U → Tasks V T O R K U → Books V ℕ D O R K → Books V ℕ D O R K → Type 0
    MayAsk n old new was now = HasAskedAt n old new was now ⊎ HasNotAsked n old new was now

module _ {V T U O R K D : Type 0} (trusts : List Trust) (books : Books V ℕ D O R K) where
  -- where a deed asks a trustee, its window had room
  abbrev pub AsksWithRoom : Deed V T U O R K → Type 0
  AsksWithRoom (Asked k i op) = (trust : Trust) → slice_get trusts i ≡ Some trust → counting_at books trust.trustee < WINDOW
  AsksWithRoom _ = Unit {0}

module _ {V T O R K U D Table Owner : Type 0} (theory : Theory V O R K Table D Owner) (kind : Kind V O R K) (rules : Rules V T U O R K) where
  -- what was done without the tables, and whether it moved a task
  pub record HaveMoved (moved : Bool) (old new : Tasks V T O R K U) (was now : Books V ℕ D O R K) : Type 0 where
    pub deeds : List (Deed V T U O R K)
    pub told : new.told.items ≡ old.told.items ++ deeds
    pub runs : (tables : List Table)
        → Runs theory kind rules old.trusts.items deeds (world_of old was tables) (world_of new now tables)
    pub moves : moved ≡ is_some (moves_in deeds)
    pub turns : turns_in deeds ≡ []
    pub many : length new.stages.items ≡ length old.stages.items
    pub rest : KeepsRest old new

  -- answers were handed to the tasks that wait for them, and nothing else was done
  pub record HaveAnswered (moved : Bool) (old new : Tasks V T O R K U) (was now : Books V ℕ D O R K) : Type 0 where
    pub have : HaveMoved moved old new was now
    pub ranks : (count : ℕ) → All (λ d. rank count d ≡ 0) have.deeds

  -- task n was started if it was not, and what it is to ask was asked, unless the window there is full
  pub record HasGoneOnAt (n : ℕ) (moved : Bool) (old new : Tasks V T O R K U) (was now : Books V ℕ D O R K) : Type 0 where
    pub have : HaveMoved moved old new was now
    pub ranks : (count : ℕ) → All (λ d. rank count d ≡ n + 1) have.deeds
    pub settled : (stage : Stage V T U O R K) → slice_get new.stages.items n ≡ Some stage → IsSettled now old.trusts.items stage
    pub unpassed : (stage : Stage V T U O R K) → slice_get new.stages.items n ≡ Some stage → IsUnpassed old.trusts.items have.deeds n stage
    pub with_room : All (AsksWithRoom old.trusts.items was) have.deeds
    pub others : (k : ℕ) → k ≢ n → slice_get new.stages.items k ≡ slice_get old.stages.items k
    pub arrived : now.arrived ≡ was.arrived
    pub more : (t : ℕ) → counting_at was t ≤ counting_at now t

  -- so for each task below n, in the order of the numbers
  pub record HaveGoneOn (n : ℕ) (moved : Bool) (old new : Tasks V T O R K U) (was now : Books V ℕ D O R K) : Type 0 where
    pub have : HaveMoved moved old new was now
    pub ranks : (count : ℕ) → All (λ d. rank count d ≤ n) have.deeds
    pub in_order : (count : ℕ) → IsNonDecreasingBy (rank count) have.deeds
    pub settled : (k : ℕ) (stage : Stage V T U O R K) → k < n → slice_get new.stages.items k ≡ Some stage → IsSettled now old.trusts.items stage
    pub unpassed : (k : ℕ) (stage : Stage V T U O R K) → k < n → slice_get new.stages.items k ≡ Some stage → IsUnpassed old.trusts.items have.deeds k stage
    pub arrived : now.arrived ≡ was.arrived

  -- the client made its turns at these trustees; whether one sent a batch or got answers. Where none did, each was pending
  pub record HaveMadeTurns (busy : List ℕ) (went : Bool) (old new : Tasks V T O R K U) (was now : Books V ℕ D O R K) (before after : List Table)
      : Type 0 where
    pub deeds : List (Deed V T U O R K)
    pub told : new.told.items ≡ old.told.items ++ deeds
    pub runs : Runs theory kind rules old.trusts.items deeds (world_of old was before) (world_of new now after)
    pub moves : moves_in deeds ≡ 0
    pub ranks : (count : ℕ) → All (λ d. rank count d ≡ count + 1) deeds
    pub turns : map (λ turn. turn.0) (turns_in deeds) ≡ busy
    pub went_is : went ≡ is_some (went_in (turns_in deeds))
    pub pending : went ≡ false → was.arrived.items ≡ [] → (turns_in deeds ≡ all_pending busy) × (now.arrived.items ≡ [])
    pub counting : (t : ℕ) → counting_at now t ≡ counting_at was t
    pub stages : new.stages.items ≡ old.stages.items
    pub many : length after ≡ length before
    pub rest : KeepsRest old new
