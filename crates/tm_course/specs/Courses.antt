-- One launch from its beginning to its end, by a trustee's log: the definitions, and the statements, each proved as the contract of a function.
use Rattle.std.specs.Prelude.{◌≡◌, ◌≢◌, ℕ, ◌<◌, ◌==◌, ◌&&◌, nat_lt, cond, List, [], ◌∷◌, ◌++◌, length, map, slice_index_or}
use Rattle.std.specs.declared.option.Option.TheVariants.{Some}
use Rattle.tm_seq.specs.Kind.{Kind, IsResume}
use Rattle.tm_seq.specs.declared.kind.Event.{Event}
use Rattle.tm_seq.specs.declared.kind.Event.TheVariants.{Begin, Reply, NotAbove, NoObject}
use Rattle.tm_seq.specs.declared.kind.Next.{Next}
use Rattle.tm_seq.specs.declared.kind.Next.TheVariants.{Ask, Done}
use Rattle.tm_batch.specs.declared.message.Name.{Name}
use Rattle.tm_batch.specs.declared.message.Request.TheVariants.{Launch}
use Rattle.tm_batch.specs.declared.message.Answer.TheVariants.{Launched}
use Rattle.tm_model.specs.declared.entry.Entry.{Entry}
use Rattle.tm_model.specs.declared.entry.Entry.TheVariants.{Resume}
use Rattle.tm_model.specs.State.{Awaits, Start, AskOf, Setup, Object, State, ids_above, object_of, place_count}
use Rattle.tm_model.specs.Serve.{state_after}
use Rattle.tm_model.specs.Legal.{IsAwaited, IsLegal}
use Rattle.tm_model.specs.Laws.{IsOpening}
use Rattle.tm_model.specs.Ran.{ran, answered}
use Rattle.tm_trustee.specs.NestedAsks.{IsAmong, target, is_ask_of, works_at, asks_of, replies_of}

-- a step of launched work: what it was told, and what it did next
abbrev pub WorkStep : Type 0 → Type 0 → Type 0 → Type 0
WorkStep O R T = Event R × Next O T R

-- what work awaits that did this
abbrev pub awaited_by : {O R T : Type 0} → Next O T R → Awaits
awaited_by (Ask u i op later) = AskOf u i
awaited_by (Done r) = Start

module _ {O R T : Type 0} where
  -- what some steps ask of trustee u, in order: the id of an object that is held there, and the operation
  abbrev pub asked_in : Setup → ℕ → List (WorkStep O R T) → List (ℕ × O)
  asked_in setup u [] = []
  asked_in setup u ((event, Ask v i op later) ∷ steps) =
      cond ((v == u) && nat_lt i (length (ids_above setup u))) ((slice_index_or (ids_above setup u) i 0, op) ∷ asked_in setup u steps) (asked_in setup u steps)
  asked_in setup u ((event, Done r) ∷ steps) = asked_in setup u steps

  -- the replies of trustee u that some steps are told, in order, of which the first was awaited so
  abbrev pub told_in : ℕ → Awaits → List (WorkStep O R T) → List R
  told_in u awaits [] = []
  told_in u awaits ((Reply r, next) ∷ steps) = cond (is_ask_of u awaits) (r ∷ told_in u (awaited_by next) steps) (told_in u (awaited_by next) steps)
  told_in u awaits ((Begin, next) ∷ steps) = told_in u (awaited_by next) steps
  told_in u awaits ((NotAbove, next) ∷ steps) = told_in u (awaited_by next) steps
  told_in u awaits ((NoObject, next) ∷ steps) = told_in u (awaited_by next) steps

module _ {V O R T : Type 0} where
  -- Work on a value took this course, from a task that awaits something to its end with a reply: each time it was told what it awaited, and did
  -- what the kind's `advance` says, or ended for want of memory.
  abbrev pub IsCourse : Kind V O R T → Setup → V → T → Awaits → List (WorkStep O R T) → R → Type 0
  IsCourse kind setup v task awaits [] reply = ⊥
  IsCourse kind setup v task awaits ((event, Ask u i op later) ∷ steps) reply =
      IsAwaited setup awaits event × ((w : V) × IsResume kind v task event w (Ask u i op later) × IsCourse kind setup w later (AskOf u i) steps reply)
  IsCourse kind setup v task awaits ((event, Done r) ∷ steps) reply =
      IsAwaited setup awaits event × ((w : V) × IsResume kind v task event w (Done r)) × (steps ≡ []) × (reply ≡ r)

  -- no launch is unfinished in a state
  abbrev pub NoneWorks : State V O R T → Type 0
  NoneWorks s = (id : ℕ) → works_at s id ≡ []

  -- where a log grows by nothing that any place asked, and no launch is unfinished, no launched work asks or is told anything
  abbrev pub IdleLogsAreQuiet : Kind V O R T → Type 0
  IdleLogsAreQuiet kind =
      (opening : State V O R T) (log es : List (Entry V O R T)) → IsOpening opening → IsLegal kind opening (log ++ es) → NoneWorks (state_after kind opening log)
      → ((c : ℕ) → c < place_count opening.setup → ran c es ≡ [])
      → (u : ℕ) → (asks_of opening.setup u es ≡ []) × (replies_of kind (state_after kind opening log) u es ≡ [])

  -- what a launch did by which a log grew, where `state` is that in which it was accepted
  pub record TookCourse (kind : Kind V O R T) (opening : State V O R T) (log es : List (Entry V O R T)) (n : Name) (task : T) (ticket : ℕ) : Type 0 where
    pub object : Object V T
    pub of_object : object_of (state_after kind opening log).live n.id ≡ Some object
    pub steps : List (WorkStep O R T)
    pub reply : R
    pub course : IsCourse kind opening.setup object.value task Start steps reply
    -- it alone asked and was told anything
    pub asked : (u : ℕ) → map target (asks_of opening.setup u es) ≡ asked_in opening.setup u steps
    pub told : (u : ℕ) → map (λ t. t.reply) (replies_of kind (state_after kind opening log) u es) ≡ told_in u Start steps
    -- its end is the only one of its ticket
    pub ends : (id : ℕ) (event : Event R) (other : R) → IsAmong (Resume id ticket event (Done other)) (log ++ es) → other ≡ reply

  -- a launch that is alone, from a state in which none is unfinished to another, takes its course from its task to its end
  abbrev pub LaunchesTakeCourses : Kind V O R T → Type 0
  LaunchesTakeCourses kind =
      (opening : State V O R T) (log es : List (Entry V O R T)) (c : ℕ) (n : Name) (task : T) (ticket : ℕ) → IsOpening opening
      → IsLegal kind opening (log ++ es) → NoneWorks (state_after kind opening log) → NoneWorks (state_after kind opening (log ++ es))
      → ((d : ℕ) → d < place_count opening.setup → d ≢ c → ran d es ≡ []) → ran c es ≡ Launch n task ∷ [] → answered c es ≡ Launched ticket ∷ []
      → TookCourse kind opening log es n task ticket
