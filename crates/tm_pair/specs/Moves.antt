-- What a list of calls at a table finds in its slots, and what it leaves of them and of the log.
use Rattle.std.specs.Prelude.{◌≡◌, ℕ, false, List, [], ◌∷◌}
use Rattle.std.specs.declared.option.Option.{Option}
use Rattle.std.specs.declared.option.Option.TheVariants.{None, Some}
use Rattle.tm_batch.specs.declared.batch.Batch.{Batch}
use Rattle.tm_batch.specs.declared.message.Request.{Request}
use Rattle.tm_batch.specs.declared.message.AnswerBatch.{AnswerBatch}
use Rattle.tm_model.specs.declared.entry.Entry.{Entry}
use Rattle.tm_model.specs.Slots.{Empty, Asked, Taken, Answered, slot_of, first_core, publish, see, is_asked, collect, is_answered}
use Rattle.tm_model.specs.Good.{FullBox, FullCore}
use Rattle.tm_model.specs.Answering.{answer_with}
use Rattle.tm_pair.specs.declared.table.Collected.{Collected}
use Rattle.tm_pair.specs.declared.table.Collected.TheVariants.{Answers, Pending, Idle}
use Rattle.tm_pair.specs.declared.moves.Move.{Move}
use Rattle.tm_pair.specs.declared.moves.Move.TheVariants.{Open, Publish, See, Answer, Collect}

module _ {V O R T : Type 0} where
  -- an answer of place c after some resumes
  abbrev pub answer_of : ℕ → List (Entry V O R T) → AnswerBatch V O R T → Move V O R T
  answer_of c resumes a = Answer c (record { of = record {}; items = resumes }) a

  -- the answers that a look found, if it found some
  abbrev pub answers_found : Collected V O R T → Option (AnswerBatch V O R T)
  answers_found (Answers a) = Some a
  answers_found Pending = None
  answers_found Idle = None

  -- a look of the trustee finds a batch that was asked, and else none
  abbrev pub FindsAsked : Option (Batch V O R T) → FullBox V O R T → Type 0
  FindsAsked (Some batch) box = box ≡ Asked batch.requests.items batch.room
  FindsAsked None box = is_asked box ≡ false

  -- a look of a client finds answers that are back, and else none
  abbrev pub FindsAnswered : Option (AnswerBatch V O R T) → FullBox V O R T → Type 0
  FindsAnswered (Some a) box = (upto : List (Entry V O R T)) × (room : ℕ) × (box ≡ Answered a upto room)
  FindsAnswered None box = is_answered box ≡ false

  -- a batch was taken and is not yet answered
  abbrev pub IsTaken : FullBox V O R T → Type 0
  IsTaken box = (b : List (Request V O R T)) × (room : ℕ) × (box ≡ Taken b room)

  -- a call may come at a core: a batch is published where the slot is empty, and answered where it was taken; a look finds what stands there
  abbrev pub MayCome : Move V O R T → FullCore V O R T → Type 0
  MayCome (Open places) core = Unit {0}
  MayCome (Publish c batch) core = (slot_of core c).box ≡ Empty
  MayCome (See c found) core = FindsAsked found (slot_of core c).box
  MayCome (Answer c resumes a) core = IsTaken (slot_of core c).box
  MayCome (Collect c found) core = FindsAnswered found (slot_of core c).box

  -- a batch of place c that was taken is answered; where none was, nothing is done
  abbrev pub answer_taken : FullBox V O R T → ℕ → List (Entry V O R T) → AnswerBatch V O R T → FullCore V O R T → FullCore V O R T
  answer_taken (Taken b room) c resumes a core = answer_with c b room resumes a core
  answer_taken Empty c resumes a core = core
  answer_taken (Asked b room) c resumes a core = core
  answer_taken (Answered _ _ _) c resumes a core = core

  -- what one call leaves
  abbrev pub after_move : Move V O R T → FullCore V O R T → FullCore V O R T
  after_move (Open places) core = first_core places
  after_move (Publish c batch) core = publish c batch.requests.items batch.room core
  after_move (See c found) core = see c core
  after_move (Answer c resumes a) core = answer_taken (slot_of core c).box c resumes.items a core
  after_move (Collect c found) core = collect c core

  abbrev pub after_moves : List (Move V O R T) → FullCore V O R T → FullCore V O R T
  after_moves [] core = core
  after_moves (move ∷ moves) core = after_moves moves (after_move move core)

  -- what a list of calls leaves, of which the first opened the table
  abbrev pub core_after : List (Move V O R T) → FullCore V O R T
  core_after moves = after_moves moves (first_core 0)
