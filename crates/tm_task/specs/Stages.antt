-- What each task is at, by what was done.
use Rattle.std.specs.Prelude.{◌≡◌, ℕ, ◌≤◌, nat_lt, Bool, true, false, cond, List, [], ◌∷◌, ◌++◌, length, vec_capacity, slice_get, slice_set, count_by}
use Rattle.std.specs.declared.option.Option.{Option}
use Rattle.std.specs.declared.option.Option.TheVariants.{None, Some}
use Rattle.tm_client.specs.declared.answers.Got.{Got}
use Rattle.tm_client.specs.declared.trust.Trust.{Trust}
use Rattle.tm_task.specs.declared.deed.Deed.{Deed}
use Rattle.tm_task.specs.declared.deed.Deed.TheVariants.{Added, Started, Asked, Resumed, Turned}
use Rattle.tm_task.specs.declared.stage.Stage.{Stage}
use Rattle.tm_task.specs.declared.stage.Stage.TheVariants.{Fresh, Asks, Waits, Ended}
use Rattle.tm_task.specs.declared.task.Move.{Move}
use Rattle.tm_task.specs.declared.task.Move.TheVariants.{Apply, Done}
use Rattle.tm_task.specs.declared.tasks.Tasks.{Tasks}
use Rattle.tm_task.specs.Rules.{Rules, Begins, GoesOn}

module _ {V T U O R K : Type 0} where
  -- what a task is at after a move, where there are so many trusts: it asks the one that it names, or has ended
  abbrev pub stage_of : ℕ → Move V T U O R K → Stage V T U O R K
  stage_of count (Apply i op task) = cond (nat_lt i count) (Asks i op task) (Ended None)
  stage_of count (Done out) = Ended (Some out)

  abbrev pub is_ended : Stage V T U O R K → Bool
  is_ended (Ended out) = true
  is_ended _ = false

  abbrev pub is_fresh : Stage V T U O R K → Bool
  is_fresh (Fresh task) = true
  is_fresh _ = false

  abbrev pub is_asking : Stage V T U O R K → Bool
  is_asking (Asks i op task) = true
  is_asking _ = false

  -- how many of some tasks have ended
  abbrev pub ended_in : List (Stage V T U O R K) → ℕ
  ended_in stages = count_by is_ended stages

  -- what a task ended with: an output; none where it has not ended, or named a trust past the last
  abbrev pub out_of : Stage V T U O R K → Option U
  out_of (Ended out) = out
  out_of _ = None

  -- task n was to ask the trust of index i to run an operation, and waits for the answer
  pub record IsAsked (n i : ℕ) (op : O) (old new : List (Stage V T U O R K)) : Type 0 where
    pub task : T
    pub was : slice_get old n ≡ Some (Asks i op task)
    pub now : new ≡ slice_set old n (Waits i task)

module _ {V T U O R K : Type 0} (rules : Rules V T U O R K) (count : ℕ) where
  -- task n was fresh, and made a lawful first move
  pub record IsStarted (n : ℕ) (move : Move V T U O R K) (old new : List (Stage V T U O R K)) : Type 0 where
    pub task : T
    pub was : slice_get old n ≡ Some (Fresh task)
    pub begins : Begins rules task move
    pub now : new ≡ slice_set old n (stage_of count move)

  -- task n waited for an answer, and made a lawful move at one
  pub record IsResumed (n : ℕ) (got : Got V O R K) (move : Move V T U O R K) (old new : List (Stage V T U O R K)) : Type 0 where
    pub trust : ℕ
    pub task : T
    pub was : slice_get old n ≡ Some (Waits trust task)
    pub goes_on : GoesOn rules task got move
    pub now : new ≡ slice_set old n (stage_of count move)

  -- what a deed makes of what the tasks are at
  abbrev pub Steps : Deed V T U O R K → List (Stage V T U O R K) → List (Stage V T U O R K) → Type 0
  Steps (Added task) old new = new ≡ old ++ Fresh task ∷ []
  Steps (Started n move) old new = IsStarted n move old new
  Steps (Asked n i op) old new = IsAsked n i op old new
  Steps (Resumed n got move) old new = IsResumed n got move old new
  Steps (Turned t turn) old new = new ≡ old

  -- so do some deeds, in order
  unfoldable pub Goes : List (Deed V T U O R K) → List (Stage V T U O R K) → List (Stage V T U O R K) → Type 0
  Goes [] old new = new ≡ old
  Goes (d ∷ deeds) old new = (mid : List (Stage V T U O R K)) × Steps d old mid × Goes deeds mid new

module _ {V T O R K U : Type 0} (rules : Rules V T U O R K) where
  -- tasks of a client: what each is at is what the deeds that are told make of it, and all room is reserved
  pub record AreTasks (tasks : Tasks V T O R K U) : Type 0 where
    pub told : Goes rules (length tasks.trusts.items) tasks.told.items [] tasks.stages.items
    pub most : length tasks.stages.items ≤ tasks.room
    pub stages_room : tasks.room ≤ vec_capacity tasks.stages
    pub outs : tasks.outs.items ≡ []
    pub outs_room : tasks.room ≤ vec_capacity tasks.outs

module _ {V T O R K U : Type 0} where
  -- no task came yet, and these are the trusts
  pub record HaveBegun (trusts : List Trust) (room : ℕ) (tasks : Tasks V T O R K U) : Type 0 where
    pub trusts_are : tasks.trusts.items ≡ trusts
    pub room_is : tasks.room ≡ room
    pub none : tasks.stages.items ≡ []
    pub nothing : tasks.told.items ≡ []

  -- a task came behind the others
  pub record HasAdded (task : T) (old new : Tasks V T O R K U) : Type 0 where
    pub stages : new.stages.items ≡ old.stages.items ++ Fresh task ∷ []
    pub told : new.told.items ≡ old.told.items ++ Added task ∷ []
    pub trusts : new.trusts ≡ old.trusts
    pub room : new.room ≡ old.room
