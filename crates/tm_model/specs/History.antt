-- What happened to one object, and the value that this leaves.
use Rattle.std.specs.Prelude.{◌≡◌, ℕ, ◌==◌, Bool, false, cond, List, [], ◌∷◌, ◌++◌, filter}
use Rattle.std.specs.declared.option.Option.{Option}
use Rattle.std.specs.declared.option.Option.TheVariants.{None, Some}
use Rattle.tm_seq.specs.Kind.{Kind}
use Rattle.tm_seq.specs.declared.kind.Event.{Event}
use Rattle.tm_seq.specs.declared.kind.Next.{Next}
use Rattle.tm_seq.specs.declared.kind.Next.TheVariants.{Ask, Done}
use Rattle.tm_batch.specs.declared.message.Request.TheVariants.{Entrust, Apply, Launch}
use Rattle.tm_batch.specs.declared.message.Answer.TheVariants.{Entrusted, Replied, Launched}
use Rattle.tm_model.specs.declared.entry.Entry.{Entry}
use Rattle.tm_model.specs.declared.entry.Entry.TheVariants.{By, Resume}
use Rattle.tm_model.specs.State.{Object, State, object_of}
use Rattle.tm_model.specs.Serve.{value_run, value_resumed}

-- the tasks that go on after the first of some was resumed
abbrev pub tasks_resumed : {O R T : Type 0} → List T → Next O T R → List T
tasks_resumed [] next = []
tasks_resumed (task ∷ tasks) (Ask u i op later) = later ∷ tasks
tasks_resumed (task ∷ tasks) (Done r) = tasks

-- the value of an object, if there is one
abbrev value_in : {V T : Type 0} → Option (Object V T) → Option V
value_in None = None
value_in (Some o) = Some o.value

abbrev or_else : {V : Type 0} → Option V → Option V → Option V
or_else (Some v) other = Some v
or_else None other = other

module _ {V O R T : Type 0} where
  -- whether an entry is an apply, a launch or a resume of the object of an id
  abbrev happens_to : ℕ → Entry V O R T → Bool
  happens_to id (By c k (Apply n op) (Replied r)) = n.id == id
  happens_to id (By c k (Launch n task) (Launched ticket)) = n.id == id
  happens_to id (Resume i ticket event next) = i == id
  happens_to _ _ = false

  -- the history of an object: the applies, launches and resumes of its id, in order
  abbrev pub history_of : ℕ → List (Entry V O R T) → List (Entry V O R T)
  history_of id log = filter (happens_to id) log

  -- the value after the first of some tasks was resumed
  abbrev pub value_told : Kind V O R T → V → List T → Event R → Next O T R → V
  value_told kind v [] event next = v
  value_told kind v (task ∷ tasks) event next = value_resumed kind v task event next

  -- the value and the unfinished tasks that a history leaves, by `step` and `advance` alone
  abbrev pub lived : Kind V O R T → V → List T → List (Entry V O R T) → V × List T
  lived kind v tasks [] = (v, tasks)
  lived kind v tasks (By c k (Apply n op) (Replied r) ∷ es) = lived kind (value_run kind v op r) tasks es
  lived kind v tasks (By c k (Launch n task) (Launched ticket) ∷ es) = lived kind v (tasks ++ task ∷ []) es
  lived kind v tasks (Resume id ticket event next ∷ es) = lived kind (value_told kind v tasks event next) (tasks_resumed tasks next) es
  lived kind v tasks (_ ∷ es) = lived kind v tasks es

  -- the value with which an id was entrusted in a log
  abbrev entrusted_in : ℕ → List (Entry V O R T) → Option V
  entrusted_in id [] = None
  entrusted_in id (By c k (Entrust v) (Entrusted n) ∷ es) = cond (n.id == id) (Some v) (entrusted_in id es)
  entrusted_in id (_ ∷ es) = entrusted_in id es

  -- the value with which an id was entrusted, at the opening or in a log
  abbrev pub first_value : State V O R T → List (Entry V O R T) → ℕ → Option V
  first_value opening log id = or_else (value_in (object_of opening.live id)) (entrusted_in id log)

  -- the history of an id in a log leaves a value and unfinished tasks of what was entrusted
  abbrev pub Leaves : Kind V O R T → State V O R T → List (Entry V O R T) → ℕ → V → List T → Type 0
  Leaves kind opening log id value tasks =
      (v : V) × (first_value opening log id ≡ Some v) × ((value, tasks) ≡ lived kind v [] (history_of id log))
