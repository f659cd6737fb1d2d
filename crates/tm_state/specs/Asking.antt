-- What may be asked of a trustee, and what it does.
use Rattle.std.specs.Prelude.{◌≡◌, ℕ, ◌+◌, ◌-◌, ◌^◌, ◌<◌, ◌≤◌, min, Bool, true, List, [], ◌∷◌, ◌++◌, length, take, IsTrue, ◌↔◌}
use Rattle.tm_seq.specs.Kind.{Kind}
use Rattle.tm_batch.specs.declared.limits.TheConstants.{WINDOW, MOST_COMPLETIONS}
use Rattle.tm_batch.specs.declared.message.Request.{Request}
use Rattle.tm_batch.specs.declared.message.Answer.{Answer}
use Rattle.tm_batch.specs.declared.message.AnswerBatch.{AnswerBatch}
use Rattle.tm_model.specs.declared.entry.Entry.{Entry}
use Rattle.tm_model.specs.declared.entry.Entry.TheVariants.{By, Sent}
use Rattle.tm_model.specs.State.{State, place_of, place_count, IsHeld}
use Rattle.tm_model.specs.Serve.{served, state_after}
use Rattle.tm_model.specs.Legal.{Serves}
use Rattle.tm_model.specs.GoodSlots.{IsSettled}
use Rattle.tm_model.specs.Ran.{mark_of, ran}
use Rattle.tm_model.specs.Entries.{entries_by, added}
use Rattle.tm_model.specs.Answering.{MayGrow}
use Rattle.tm_model.specs.Holds.{Names, has_bye, launches_in, unfinished}
use Rattle.tm_model.specs.Orderly.{GrantsBelow}
use Rattle.tm_model.specs.Laws.{IsOpening, IsSound, IsPromised}
use Rattle.tm_state.specs.StateView.{StateView}
use Rattle.tm_state.specs.Represents.{Keeps, Represents}

module _ {V O R T : Type 0} where
  -- the request q of place c may be asked in a state: its place is one of the table, each id that it names is live and held by c, a
  -- grant is to a client, of at most so many launches of c, with it, a completion has not left, and none is unfinished at a Bye
  pub record MayAsk (s : State V O R T) (c : ℕ) (q : Request V O R T) : Type 0 where
    pub in_range : c < place_count s.setup
    pub held : (id : ℕ) → Names q id → IsHeld s c id
    pub grants : GrantsBelow s.setup.config.clients q
    pub launches : unfinished c s.live + length (place_of s c).ready + launches_in (q ∷ []) ≤ WINDOW
    pub bye : has_bye (q ∷ []) ≡ true → unfinished c s.live ≡ 0

  -- a trustee has what a sound state says, in which the request q of place c may be asked
  pub record IsAsked (opening s : State V O R T) (c : ℕ) (q : Request V O R T) (h : StateView V O R T) : Type 0 where
    pub opens : IsOpening opening
    pub sound : IsSound opening s
    pub keeps : Keeps s h
    pub may : MayAsk s c q

  -- there is such a state
  abbrev pub IsServable : Kind V O R T → ℕ → Request V O R T → StateView V O R T → Type 0
  IsServable kind c q h = (opening : State V O R T) × (s : State V O R T) × IsAsked opening s c q h

  -- whatever state it has, a may answer the request in it, and it has then what that state is after the request
  abbrev pub HasServed : Kind V O R T → ℕ → Request V O R T → Answer V O R T → StateView V O R T → StateView V O R T → Type 0
  HasServed kind c q a old new =
      (opening s : State V O R T) → IsAsked opening s c q old → Serves kind s c q a × Keeps (served kind c q a s) new

  -- a trustee has what its log leaves, and the request q of place c may be asked behind it
  pub record MayRun (kind : Kind V O R T) (opening : State V O R T) (log : List (Entry V O R T)) (c : ℕ) (q : Request V O R T)
      (h : StateView V O R T) : Type 0 where
    pub represents : Represents kind opening log h
    pub may : MayAsk (state_after kind opening log) c q

  abbrev pub IsRunnable : Kind V O R T → ℕ → Request V O R T → StateView V O R T → Type 0
  IsRunnable kind c q h = (opening : State V O R T) × (log : List (Entry V O R T)) × MayRun kind opening log c q h

  -- whatever log it represents, it represents now that log and the entry of the request
  abbrev pub HasRun : Kind V O R T → ℕ → Request V O R T → Answer V O R T → StateView V O R T → StateView V O R T → Type 0
  HasRun kind c q a old new =
      (opening : State V O R T) (log : List (Entry V O R T)) → MayRun kind opening log c q old
      → Represents kind opening (log ++ By c (length (ran c log)) q a ∷ []) new

  -- a trustee has what its log leaves, behind which all answers of place c have left, and is told of the batch b of c
  pub record MayRunBatch (kind : Kind V O R T) (opening : State V O R T) (log : List (Entry V O R T)) (c : ℕ) (b : List (Request V O R T))
      (h : StateView V O R T) : Type 0 where
    pub represents : Represents kind opening log h
    pub in_range : c < place_count opening.setup
    pub settled : IsSettled mark_of c log
    pub promised : IsPromised kind opening log c b

  -- whatever log it represents, there is one answer for each request of the batch b, and it represents that log and their entries then
  abbrev pub HasRunAll : Kind V O R T → ℕ → List (Request V O R T) → List (Answer V O R T) → StateView V O R T → StateView V O R T → Type 0
  HasRunAll kind c b answers old new =
      (opening : State V O R T) (log : List (Entry V O R T)) → MayRunBatch kind opening log c b old
      → (length answers ≡ length b) × Represents kind opening (log ++ entries_by c (length (ran c log)) b answers) new

  abbrev pub IsAnswerable : Kind V O R T → ℕ → List (Request V O R T) → StateView V O R T → Type 0
  IsAnswerable kind c b h = (opening : State V O R T) × (log : List (Entry V O R T)) × MayRunBatch kind opening log c b h

  -- whatever log it represents, that log may grow by the batch b with its room, answered by a, and it represents the longer log then
  abbrev pub HasAnswered : Kind V O R T → ℕ → List (Request V O R T) → ℕ → AnswerBatch V O R T → StateView V O R T → StateView V O R T → Type 0
  HasAnswered kind c b room a old new =
      (opening : State V O R T) (log : List (Entry V O R T)) → MayRunBatch kind opening log c b old
      → MayGrow kind opening log [] c b room a × Represents kind opening (log ++ added log [] c b room a.answers.items) new

  -- a trustee has what its log leaves
  abbrev pub MayLeave : Kind V O R T → ℕ → StateView V O R T → Type 0
  MayLeave kind c h =
      (opening : State V O R T) × (log : List (Entry V O R T)) × Represents kind opening log h × (c < place_count opening.setup)

  -- whatever log it represents, and where place c is one of the table: the gifts of a are those that leave with a room for place c, and
  -- its completions those that are ready for it, the longest waiting first; its front is the length of the log with their entry, and it
  -- represents that longer log then
  abbrev pub HasLeft : Kind V O R T → ℕ → ℕ → AnswerBatch V O R T → StateView V O R T → StateView V O R T → Type 0
  HasLeft kind c room a old new =
      (opening : State V O R T) (log : List (Entry V O R T)) → Represents kind opening log old → c < place_count opening.setup
      → (a.gifts.items ≡ take room (place_of (state_after kind opening log) c).gifts)
      × (a.completions.items ≡ take MOST_COMPLETIONS (place_of (state_after kind opening log) c).ready)
      × (a.front ≡ min (length log + 1) (2 ^ 64 - 1))
      × Represents kind opening (log ++ Sent c room ∷ []) new

  -- every place of the table has said Bye by a log
  abbrev pub HaveAllEnded : State V O R T → List (Entry V O R T) → Type 0
  HaveAllEnded opening log = (c : ℕ) → c < place_count opening.setup → has_bye (ran c log) ≡ true

  -- whatever log a trustee represents, the answer tells whether every place has said Bye by it
  abbrev pub TellsEnd : Kind V O R T → StateView V O R T → Bool → Type 0
  TellsEnd kind h answer =
      (opening : State V O R T) (log : List (Entry V O R T)) → Represents kind opening log h → IsTrue answer ↔ HaveAllEnded opening log
