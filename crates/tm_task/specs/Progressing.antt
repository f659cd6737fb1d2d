-- What a turn of tasks says that it did.
use Rattle.std.specs.Prelude.{◌≡◌, ◌≢◌, ℕ, zero, suc, ◌+◌, ◌<◌, ◌≤◌, ◌==◌, cond, List, [], ◌∷◌, ◌++◌, length, map, slice_get}
use Rattle.std.specs.List.{All}
use Rattle.std.specs.List.Sorted.{IsNonDecreasingBy}
use Rattle.std.specs.declared.option.Option.{Option}
use Rattle.std.specs.declared.option.Option.TheVariants.{None, Some}
use Rattle.tm_seq.specs.Kind.{Kind}
use Rattle.tm_batch.specs.declared.limits.TheConstants.{WINDOW}
use Rattle.tm_pair.specs.Theory.{Theory}
use Rattle.tm_client.specs.declared.answers.Turn.{Turn}
use Rattle.tm_client.specs.declared.answers.Turn.TheVariants.{Sent, Pending, Got}
use Rattle.tm_client.specs.declared.books.Books.{Books}
use Rattle.tm_client.specs.declared.lane.Lane.{Lane}
use Rattle.tm_client.specs.declared.trust.Trust.{Trust}
use Rattle.tm_task.specs.declared.deed.Deed.{Deed}
use Rattle.tm_task.specs.declared.deed.Deed.TheVariants.{Added, Started, Asked, Resumed, Turned}
use Rattle.tm_task.specs.declared.stage.Stage.{Stage}
use Rattle.tm_task.specs.declared.stage.Stage.TheVariants.{Fresh, Asks}
use Rattle.tm_task.specs.declared.tasks.Tasks.{Tasks}
use Rattle.tm_task.specs.declared.turning.Progress.{Progress}
use Rattle.tm_task.specs.declared.turning.Progress.TheVariants.{Moved, Pending as StillPending, AllEnded}
use Rattle.tm_task.specs.Rules.{Rules}
use Rattle.tm_task.specs.Stages.{ended_in}
use Rattle.tm_task.specs.Runs.{World, Runs}

module _ {V T U O R K : Type 0} where
  -- how often a task was started or resumed
  abbrev pub moves_in : List (Deed V T U O R K) → ℕ
  moves_in [] = 0
  moves_in (Started n move ∷ deeds) = 1 + moves_in deeds
  moves_in (Resumed n got move ∷ deeds) = 1 + moves_in deeds
  moves_in (_ ∷ deeds) = moves_in deeds

  -- the tasks that went on with an answer, in order
  abbrev pub resumed_in : List (Deed V T U O R K) → List ℕ
  resumed_in [] = []
  resumed_in (Resumed n got move ∷ deeds) = n ∷ resumed_in deeds
  resumed_in (_ ∷ deeds) = resumed_in deeds

  -- where a deed stands in a turn of so many tasks: first an answer, then what is started or asked, by the task's number, and last a turn
  -- of the client
  abbrev pub rank : ℕ → Deed V T U O R K → ℕ
  rank count (Resumed n got move) = 0
  rank count (Started n move) = n + 1
  rank count (Asked n i op) = n + 1
  rank count (Turned t turn) = count + 1
  rank count (Added task) = count + 1

  -- the turns that the client made: at which trustees, and what they said
  abbrev pub turns_in : List (Deed V T U O R K) → List (ℕ × Turn)
  turns_in [] = []
  turns_in (Turned t turn ∷ deeds) = (t, turn) ∷ turns_in deeds
  turns_in (_ ∷ deeds) = turns_in deeds

-- how many of some turns sent a batch or got answers
abbrev pub went_in : List (ℕ × Turn) → ℕ
went_in [] = 0
went_in ((t, Sent n) ∷ turns) = 1 + went_in turns
went_in ((t, Got n) ∷ turns) = 1 + went_in turns
went_in (_ ∷ turns) = went_in turns

module _ {V C D O R K : Type 0} where
  abbrev pub count_of : Option (Lane V C D O R K) → ℕ
  count_of None = 0
  count_of (Some lane) = lane.counting

  -- how many requests count at trustee t
  abbrev pub counting_at : Books V C D O R K → ℕ → ℕ
  counting_at books t = count_of (slice_get books.lanes.items t)

  -- trustee t, if a request counts there
  abbrev pub busy_at : Books V C D O R K → ℕ → List ℕ
  busy_at books t = cond (counting_at books t == 0) [] (t ∷ [])

  -- the trustees below n at which a request counts, in order
  abbrev pub busy_below : Books V C D O R K → ℕ → List ℕ
  busy_below books zero = []
  busy_below books (suc n) = busy_below books n ++ busy_at books n

module _ {V T U O R K C D : Type 0} where
  -- after a turn a task was started, and where it still is to ask, the window of that trustee is full
  abbrev pub IsSettled : Books V C D O R K → List Trust → Stage V T U O R K → Type 0
  IsSettled books trusts (Fresh task) = ⊥
  IsSettled books trusts (Asks i op task) = (trust : Trust) × (slice_get trusts i ≡ Some trust) × (WINDOW ≤ counting_at books trust.trustee)
  IsSettled books trusts _ = Unit {0}

module _ {V T U O R K : Type 0} (trusts : List Trust) where
  -- where a deed asks trustee t, it asks for a task before n
  abbrev pub AsksBefore : ℕ → ℕ → Deed V T U O R K → Type 0
  AsksBefore t n (Asked k i op) = (trust : Trust) → slice_get trusts i ≡ Some trust → trust.trustee ≡ t → k < n
  AsksBefore t n _ = Unit {0}

  -- where task n still is to ask, no task behind it was asked of that trustee
  abbrev pub IsUnpassed : List (Deed V T U O R K) → ℕ → Stage V T U O R K → Type 0
  IsUnpassed deeds n (Asks i op task) = (trust : Trust) → slice_get trusts i ≡ Some trust → All (AsksBefore trust.trustee n) deeds
  IsUnpassed deeds n _ = Unit {0}

-- a turn at each trustee of a list, which was pending
abbrev pub all_pending : List ℕ → List (ℕ × Turn)
all_pending trustees = map (λ t. (t, Pending)) trustees

module _ {V T U O R K : Type 0} where
  -- what a turn of tasks says, by what was done, what they are at then and where a request counts
  abbrev pub Tells : Progress → List (Deed V T U O R K) → List (Stage V T U O R K) → List ℕ → Type 0
  Tells AllEnded deeds stages busy = ended_in stages ≡ length stages
  Tells Moved deeds stages busy = (ended_in stages ≢ length stages) × (1 ≤ moves_in deeds + went_in (turns_in deeds))
  Tells StillPending deeds stages busy =
      (ended_in stages ≢ length stages) × (moves_in deeds ≡ 0) × (busy ≢ []) × (turns_in deeds ≡ all_pending busy)

module _ {V T O R K U D Table : Type 0} where
  abbrev pub world_of : Tasks V T O R K U → Books V ℕ D O R K → List Table → World V T U O R K D Table
  world_of tasks books tables = record { stages = tasks.stages.items; books = books; tables = tables }

module _ {V T O R K U D Table Owner : Type 0} (theory : Theory V O R K Table D Owner) (kind : Kind V O R K) (rules : Rules V T U O R K) where
  -- a turn of tasks: what it did to them, to their client and to the tables, and what it says
  pub record HaveTurned (progress : Progress) (old new : Tasks V T O R K U) (was now : Books V ℕ D O R K) (before after : List Table) : Type 0 where
    pub deeds : List (Deed V T U O R K)
    pub told : new.told.items ≡ old.told.items ++ deeds
    pub runs : Runs theory kind rules old.trusts.items deeds (world_of old was before) (world_of new now after)
    -- each answer that had come was handed to its task, in the order in which they came, and no other
    pub resumed : resumed_in deeds ≡ map (λ a. a.after) was.arrived.items
    -- the answers came first, then the tasks went on by their numbers, and last the client made its turns
    pub in_order : IsNonDecreasingBy (rank (length old.stages.items)) deeds
    -- one turn was made at each trustee where a request counts, in order, and no other
    pub turns : map (λ turn. turn.0) (turns_in deeds) ≡ busy_below now (length after)
    -- each task was started, and what one asks was asked, unless the window is full
    pub settled : (n : ℕ) (stage : Stage V T U O R K) → slice_get new.stages.items n ≡ Some stage → IsSettled now old.trusts.items stage
    -- that window was full when the task had its turn: none behind it was asked of the trustee
    pub unpassed : (n : ℕ) (stage : Stage V T U O R K) → slice_get new.stages.items n ≡ Some stage → IsUnpassed old.trusts.items deeds n stage
    pub tells : Tells progress deeds new.stages.items (busy_below now (length after))
    pub many : length new.stages.items ≡ length old.stages.items
    pub trusts : new.trusts ≡ old.trusts
    pub room : new.room ≡ old.room
