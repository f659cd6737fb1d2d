-- What holds of all logs, states and cores: the statements, each proved as the contract of a function that cites it.
use Rattle.std.specs.Prelude.{◌≡◌, ◌≢◌, ℕ, nat_eq, ◌+◌, ◌^◌, ◌<◌, ◌≤◌, ◌⊎◌, true, List, [], ◌∷◌, ◌++◌, length, map}
use Rattle.std.specs.declared.option.Option.TheVariants.{None, Some}
use Rattle.std.specs.List.{AllByRecursion, IsDistinct, range_with_len}
use Rattle.std.specs.List.Sorted.{IsStrictlyIncreasing}
use Rattle.tm_seq.specs.Kind.{Kind, IsRun, IsResume}
use Rattle.tm_seq.specs.declared.kind.Event.{Event}
use Rattle.tm_seq.specs.declared.kind.Next.{Next}
use Rattle.tm_batch.specs.declared.limits.TheConstants.{WINDOW, MOST_GIFTS}
use Rattle.tm_batch.specs.declared.message.Name.{Name}
use Rattle.tm_batch.specs.declared.config.Config.{Config}
use Rattle.tm_batch.specs.declared.config.First.{First}
use Rattle.tm_batch.specs.declared.message.Request.{Request}
use Rattle.tm_batch.specs.declared.message.Request.TheVariants.{Apply, Reclaim, Bye}
use Rattle.tm_batch.specs.declared.message.Answer.{Answer}
use Rattle.tm_batch.specs.declared.message.Answer.TheVariants.{Replied, Reclaimed}
use Rattle.tm_batch.specs.declared.message.AnswerBatch.{AnswerBatch}
use Rattle.tm_model.specs.declared.entry.Entry.{Entry}
use Rattle.tm_model.specs.declared.entry.Entry.TheVariants.{By, Resume}
use Rattle.tm_model.specs.State.{Object, State, total, object_of, place_of, place_count, IsHeld}
use Rattle.tm_model.specs.Opening.{IsBuildable, opening_of}
use Rattle.tm_model.specs.Serve.{value_run, value_resumed, state_after}
use Rattle.tm_model.specs.Legal.{IsLegal}
use Rattle.tm_model.specs.Lists.{IsPrefix}
use Rattle.tm_model.specs.Given.{ids_given, tickets_given, ended_for, completions_in}
use Rattle.tm_model.specs.History.{history_of, lived, first_value, Leaves}
use Rattle.tm_model.specs.Latched.{IsLatched}
use Rattle.tm_model.specs.Slots.{Taken, Asked, MayPublish, slot_of, publish, see, collect, first_core}
use Rattle.tm_model.specs.GoodSlots.{IsSettled, Adds}
use Rattle.tm_model.specs.Ran.{mark_of, ran, numbers, answered, waiting_after}
use Rattle.tm_model.specs.Batches.{batches}
use Rattle.tm_model.specs.Holds.{Names, has_bye, launches_in, held, answers_in, unfinished}
use Rattle.tm_model.specs.Orderly.{IsOrderly, GrantsBelow, IsOfTrustee}
use Rattle.tm_model.specs.Good.{FullCore, IsGood}
use Rattle.tm_model.specs.Entries.{AreResumes, entries_by, added}
use Rattle.tm_model.specs.Answering.{MayGrow, MayAnswerWith, answer_with}

module _ {V O R T : Type 0} where
  -- an opening state is that of a trustee of a runtime that may be built
  abbrev pub IsOpening : State V O R T → Type 0
  IsOpening opening =
      (number : ℕ) × (config : Config) × (first : List (First V))
      × IsBuildable config first × (number < config.trustees) × (opening ≡ opening_of number config first)

  -- the core at first
  abbrev pub first_of : State V O R T → FullCore V O R T
  first_of opening = first_core (place_count opening.setup)

  -- a live object of a state that began as `opening`
  pub record IsSoundObject (opening s : State V O R T) (o : Object V T) : Type 0 where
    pub id : (1 ≤ o.id) × (o.id < s.next_id)
    pub total : 1 ≤ total o
    pub places : length o.holds ≡ place_count opening.setup
    pub holds : AllByRecursion (λ n. n < 2 ^ 32) o.holds
    pub works : AllByRecursion (λ w. (w.place < place_count opening.setup) × (w.ticket < s.next_ticket)) o.works

  -- a state that began as `opening`
  pub record IsSound (opening s : State V O R T) : Type 0 where
    -- what no entry changes
    pub setup : s.setup ≡ opening.setup
    -- ids and tickets are given out once, up to the last
    pub next_id : (1 ≤ s.next_id) × (s.next_id ≤ s.setup.config.last_id + 1)
    pub next_ticket : (1 ≤ s.next_ticket) × (s.next_ticket ≤ s.setup.config.last_id + 1)
    -- ids are unique
    pub ids : IsStrictlyIncreasing (map (λ o. o.id) s.live)
    pub objects : AllByRecursion (IsSoundObject opening s) s.live
    pub most : length s.live ≤ s.setup.config.objects
    -- lists by place are as long as there are places
    pub places : length s.places ≡ place_count opening.setup
    pub gifts : AllByRecursion (λ p. length p.gifts ≤ MOST_GIFTS) s.places

  module _ (kind : Kind V O R T) where
    -- a legal log leaves a sound state
    abbrev pub StatesAreSound : Type 0
    StatesAreSound = (opening : State V O R T) (log : List (Entry V O R T)) → IsOpening opening → IsLegal kind opening log → IsSound opening (state_after kind opening log)

    -- the requests of a place are numbered from 0 in a legal log, and its state counts them
    abbrev pub RequestsAreNumbered : Type 0
    RequestsAreNumbered =
        (opening : State V O R T) (log : List (Entry V O R T)) (c : ℕ) → IsOpening opening → IsLegal kind opening log
        → c < place_count opening.setup
        → (numbers c log ≡ range_with_len 0 (length (ran c log))) × ((place_of (state_after kind opening log) c).served ≡ length (ran c log))

    -- a legal log that is joined of two is a legal log, and then one that is legal behind it
    abbrev pub LegalLogsJoin : Type 0
    LegalLogsJoin =
        (opening : State V O R T) (log es : List (Entry V O R T))
        → (IsLegal kind opening (log ++ es) → IsLegal kind opening log × IsLegal kind (state_after kind opening log) es)
        × (IsLegal kind opening log → IsLegal kind (state_after kind opening log) es → IsLegal kind opening (log ++ es))

    -- the value and the unfinished tasks of a live object are what its history leaves of the value with which it was entrusted
    abbrev pub HistoriesTellValues : Type 0
    HistoriesTellValues =
        (opening : State V O R T) (log : List (Entry V O R T)) (id : ℕ) (o : Object V T) → IsOpening opening → IsLegal kind opening log
        → object_of (state_after kind opening log).live id ≡ Some o
        → (v : V) × (first_value opening log id ≡ Some v)
        × ((o.value, map (λ w. w.task) o.works) ≡ lived kind v [] (history_of id log))

    -- each reply of an apply is lawful on the value that the history before it leaves
    abbrev pub RepliesAreOfHistories : Type 0
    RepliesAreOfHistories =
        (opening : State V O R T) (log es : List (Entry V O R T)) (c k : ℕ) (n : Name) (op : O) (r : R) → IsOpening opening
        → IsLegal kind opening (log ++ By c k (Apply n op) (Replied r) ∷ es)
        → (v : V) × (tasks : List T) × Leaves kind opening log n.id v tasks × IsRun kind v op (value_run kind v op r) r

    -- each resume is of the first unfinished task that the history before it leaves, and lawful on its value
    abbrev pub ResumesAreOfHistories : Type 0
    ResumesAreOfHistories =
        (opening : State V O R T) (log es : List (Entry V O R T)) (id ticket : ℕ) (event : Event R) (next : Next O T R) → IsOpening opening
        → IsLegal kind opening (log ++ Resume id ticket event next ∷ es)
        → (v : V) × (task : T) × (tasks : List T)
        × Leaves kind opening log id v (task ∷ tasks) × IsResume kind v task event (value_resumed kind v task event next) next

    -- a value that is taken back is the one that its history leaves, with no task unfinished, and its id is never live again
    abbrev pub ReclaimsAreOfHistories : Type 0
    ReclaimsAreOfHistories =
        (opening : State V O R T) (log es : List (Entry V O R T)) (c k : ℕ) (n : Name) (v : V) → IsOpening opening
        → IsLegal kind opening (log ++ By c k (Reclaim n) (Reclaimed v) ∷ es)
        → Leaves kind opening log n.id v []
        × (object_of (state_after kind opening (log ++ By c k (Reclaim n) (Reclaimed v) ∷ es)).live n.id ≡ None)

    -- in a legal log launched work on each object is latched
    abbrev pub LaunchesAreLatched : Type 0
    LaunchesAreLatched = (opening : State V O R T) (log : List (Entry V O R T)) → IsOpening opening → IsLegal kind opening log → IsLatched log

    -- a longer log only adds: what ran for a place, its answers and its answer batches go on
    abbrev pub LongerLogsAdd : Type 0
    LongerLogsAdd =
        (opening : State V O R T) (log es : List (Entry V O R T)) (c : ℕ)
        → IsPrefix (ran c log) (ran c (log ++ es)) × IsPrefix (answered c log) (answered c (log ++ es))
        × IsPrefix (batches kind opening c log) (batches kind opening c (log ++ es))

    -- ids and tickets are given out in order, each once; an id that was given out and is not live is never live again
    abbrev pub IdsNeverReturn : Type 0
    IdsNeverReturn =
        (opening : State V O R T) (log es : List (Entry V O R T)) → IsOpening opening → IsLegal kind opening (log ++ es)
        → (ids_given log ≡ range_with_len opening.next_id (length (ids_given log)))
        × ((state_after kind opening log).next_id ≡ opening.next_id + length (ids_given log))
        × (tickets_given log ≡ range_with_len 1 (length (tickets_given log)))
        × ((state_after kind opening log).next_ticket ≡ 1 + length (tickets_given log))
        × ((id : ℕ) → id < (state_after kind opening log).next_id → object_of (state_after kind opening log).live id ≡ None
        → object_of (state_after kind opening (log ++ es)).live id ≡ None)

    -- the completions that left for a place, and those that are ready, are those of its launches that ended, each once, in order
    abbrev pub CompletionsAreOfLaunches : Type 0
    CompletionsAreOfLaunches =
        (opening : State V O R T) (log : List (Entry V O R T)) (c : ℕ) → IsOpening opening → IsLegal kind opening log
        → c < place_count opening.setup
        → (completions_in (batches kind opening c log) ++ (place_of (state_after kind opening log) c).ready ≡ ended_for c log)
        × IsDistinct nat_eq (map (λ x. x.ticket) (ended_for c log))

    -- the answers of the batches that left for a place, and those that have not left, are the answers to its requests
    abbrev pub BatchesHaveAllAnswers : Type 0
    BatchesHaveAllAnswers =
        (opening : State V O R T) (log : List (Entry V O R T)) (c : ℕ)
        → (answers_in (batches kind opening c log) ++ waiting_after c [] log ≡ answered c log)
        × (length (answered c log) ≡ length (ran c log))
        × (IsSettled mark_of c log → waiting_after c [] log ≡ [])

    -- a log that may grow by a batch grows by it in the eyes of the slots
    abbrev pub GrowingAdds : Type 0
    GrowingAdds =
        (opening : State V O R T) (log resumes : List (Entry V O R T)) (c : ℕ) (b : List (Request V O R T)) (room : ℕ)
        (a : AnswerBatch V O R T) → MayGrow kind opening log resumes c b room a
        → Adds mark_of (batches kind opening) (IsLegal kind opening) c b room a log (added log resumes c b room a.answers.items)

    -- the first core is good
    abbrev pub FirstIsGood : Type 0
    FirstIsGood = (opening : State V O R T) → IsOpening opening → IsGood kind opening (first_of opening)

    -- an orderly publish keeps the core good
    abbrev pub PublishKeepsGood : Type 0
    PublishKeepsGood =
        (opening : State V O R T) (core : FullCore V O R T) (c : ℕ) (b : List (Request V O R T)) (room : ℕ)
        → MayPublish core c b room → IsOrderly opening c (slot_of core c).sent (slot_of core c).got b
        → IsGood kind opening core → IsGood kind opening (publish c b room core)

    -- a look of the trustee keeps the core good
    abbrev pub SeeKeepsGood : Type 0
    SeeKeepsGood =
        (opening : State V O R T) (core : FullCore V O R T) (c : ℕ)
        → c < length core.slots → IsGood kind opening core → IsGood kind opening (see c core)

    -- an answer by legal entries keeps the core good
    abbrev pub AnswerKeepsGood : Type 0
    AnswerKeepsGood =
        (opening : State V O R T) (core : FullCore V O R T) (c : ℕ) (b : List (Request V O R T)) (room : ℕ)
        (resumes : List (Entry V O R T)) (a : AnswerBatch V O R T)
        → IsOpening opening → MayAnswerWith kind opening core c b room resumes a
        → IsGood kind opening core → IsGood kind opening (answer_with c b room resumes a core)

    -- a look of a client keeps the core good
    abbrev pub CollectKeepsGood : Type 0
    CollectKeepsGood =
        (opening : State V O R T) (core : FullCore V O R T) (c : ℕ)
        → c < length core.slots → IsGood kind opening core → IsGood kind opening (collect c core)

    -- what is known of a batch of place c that was asked and not yet run, behind a log
    pub record IsPromised (opening : State V O R T) (log : List (Entry V O R T)) (c : ℕ) (b : List (Request V O R T)) : Type 0 where
      -- whatever is resumed and answered first, each id that a request names is live then and held by c
      pub held : (resumes : List (Entry V O R T)) (answers : List (Answer V O R T))
          (before after : List (Request V O R T)) (q : Request V O R T) (id : ℕ)
          → b ≡ before ++ q ∷ after → Names q id → AreResumes resumes → length answers ≡ length before
          → IsLegal kind opening (log ++ (resumes ++ entries_by c (length (ran c log)) before answers))
          → IsHeld (state_after kind opening (log ++ (resumes ++ entries_by c (length (ran c log)) before answers))) c id
      pub grants : AllByRecursion (GrantsBelow opening.setup.config.clients) b
      pub launches : unfinished c (state_after kind opening log).live + length (place_of (state_after kind opening log) c).ready + launches_in b ≤ WINDOW
      pub trustee : opening.setup.config.clients ≤ c → AllByRecursion IsOfTrustee b
      pub bye : has_bye b ≡ true
          → (b ≡ Bye ∷ []) × (unfinished c (state_after kind opening log).live ≡ 0) × (length (place_of (state_after kind opening log) c).ready ≡ 0)
      pub last : has_bye (ran c log) ≡ true → b ≡ []

    -- a good core tells this of each batch that is asked or taken
    abbrev pub BatchesArePromised : Type 0
    BatchesArePromised =
        (opening : State V O R T) (core : FullCore V O R T) (c : ℕ) (b : List (Request V O R T)) (room : ℕ)
        → IsOpening opening → IsGood kind opening core → c < length core.slots
        → ((slot_of core c).box ≡ Asked b room → IsPromised opening core.log c b)
        × ((slot_of core c).box ≡ Taken b room → IsPromised opening core.log c b)

    -- an id that a place holds by what it sent and got, before its Bye, is live and held by it
    abbrev pub HeldAreLive : Type 0
    HeldAreLive =
        (opening : State V O R T) (core : FullCore V O R T) (c id : ℕ) → IsOpening opening → IsGood kind opening core → c < length core.slots
        → has_bye (slot_of core c).sent ≢ true → 1 ≤ held opening c (slot_of core c).sent (slot_of core c).got id
        → IsHeld (state_after kind opening core.log) c id

    -- of what two places have seen, one begins the other, and what was run of a place in it begins what that place sent
    abbrev pub SeenLogsAgree : Type 0
    SeenLogsAgree =
        (opening : State V O R T) (core : FullCore V O R T) (c d : ℕ) → IsGood kind opening core
        → c < length core.slots → d < length core.slots
        → (IsPrefix (slot_of core c).seen (slot_of core d).seen ⊎ IsPrefix (slot_of core d).seen (slot_of core c).seen)
        × IsPrefix (ran d (slot_of core c).seen) (slot_of core d).sent
