-- What holds of a trustee's slots and log between any two steps.
use Rattle.std.specs.Prelude.{◌≡◌, ◌≢◌, ℕ, ◌+◌, ◌<◌, ◌≤◌, true, List, [], ◌∷◌, ◌++◌, length}
use Rattle.tm_seq.specs.Kind.{Kind}
use Rattle.tm_batch.specs.declared.limits.TheConstants.{MOST_REQUESTS, MOST_ROOM, MOST_COMPLETIONS, WINDOW}
use Rattle.tm_batch.specs.declared.message.Request.{Request}
use Rattle.tm_batch.specs.declared.message.Request.TheVariants.{Bye}
use Rattle.tm_batch.specs.declared.message.AnswerBatch.{AnswerBatch}
use Rattle.tm_model.specs.declared.entry.Entry.{Entry}
use Rattle.tm_model.specs.State.{State, place_of, place_count, holds_at}
use Rattle.tm_model.specs.Serve.{state_after}
use Rattle.tm_model.specs.Legal.{IsLegal}
use Rattle.tm_model.specs.Slots.{Box, Empty, Asked, Taken, Answered, Slot, Core, slot_of}
use Rattle.tm_model.specs.GoodSlots.{AreGoodSlots}
use Rattle.tm_model.specs.Ran.{mark_of, ran}
use Rattle.tm_model.specs.Batches.{batches}
use Rattle.tm_model.specs.Entries.{batch_entries}
use Rattle.tm_model.specs.Holds.{has_bye, launches_in, gave, gifts_of, ended_in, came, unfinished}
use Rattle.tm_model.specs.Orderly.{IsOrderly}

-- a box and a slot of a trustee, over its requests, answer batches and entries
abbrev pub FullBox : Type 0 → Type 0 → Type 0 → Type 0 → Type 0
FullBox V O R T = Box (Request V O R T) (AnswerBatch V O R T) (Entry V O R T)

abbrev pub FullSlot : Type 0 → Type 0 → Type 0 → Type 0 → Type 0
FullSlot V O R T = Slot (Request V O R T) (AnswerBatch V O R T) (Entry V O R T)

-- the core of a trustee, over the same
abbrev pub FullCore : Type 0 → Type 0 → Type 0 → Type 0 → Type 0
FullCore V O R T = Core (Request V O R T) (AnswerBatch V O R T) (Entry V O R T)

module _ {V O R T : Type 0} where
  -- what was asked and not yet run
  abbrev pub unserved : FullBox V O R T → List (Request V O R T)
  unserved Empty = []
  unserved (Asked b room) = b
  unserved (Taken b room) = b
  unserved (Answered a upto room) = []

  -- all that left for a place: what it got, and the answers in its slot
  abbrev pub got_with : FullBox V O R T → List (AnswerBatch V O R T) → List (AnswerBatch V O R T)
  got_with Empty got = got
  got_with (Asked b room) got = got
  got_with (Taken b room) got = got
  got_with (Answered a upto room) got = got ++ a ∷ []

  -- answers in a slot: as many as the batch had requests, no more gifts than its room, and completions no more than may leave; the log up to them
  -- goes on from the seen log by others, and ends with the entries of the batch, numbered from all that stands before them
  pub record IsAnswer (c : ℕ) (slot : FullSlot V O R T) (a : AnswerBatch V O R T) (upto : List (Entry V O R T)) (room : ℕ) : Type 0 where
    pub most_gifts : room ≤ MOST_ROOM
    pub gifts : length a.gifts.items ≤ room
    pub completions : length a.completions.items ≤ MOST_COMPLETIONS
    pub answers : (b : List (Request V O R T)) × (others : List (Entry V O R T))
        × (slot.sent ≡ ran c (slot.seen ++ others) ++ b) × (length b ≤ MOST_REQUESTS) × (length a.answers.items ≡ length b)
        × (upto ≡ slot.seen ++ others ++ batch_entries (slot.seen ++ others) c b room a.answers.items)

  -- a batch that is out was orderly, and answers that stand there are those of such a batch
  abbrev pub IsOutInOrder : State V O R T → ℕ → FullBox V O R T → FullSlot V O R T → List (Entry V O R T) → Type 0
  IsOutInOrder opening c Empty slot log = Unit {0}
  IsOutInOrder opening c (Asked b room) slot log = IsOrderly opening c (ran c log) slot.got b × (length b ≤ MOST_REQUESTS) × (room ≤ MOST_ROOM)
  IsOutInOrder opening c (Taken b room) slot log = IsOrderly opening c (ran c log) slot.got b × (length b ≤ MOST_REQUESTS) × (room ≤ MOST_ROOM)
  IsOutInOrder opening c (Answered a upto room) slot log = IsAnswer c slot a upto room

  -- what place c holds, what it is owed and what it still may send, behind a log that leaves the state s
  pub record IsAccounted (opening : State V O R T) (c : ℕ) (slot : FullSlot V O R T) (log : List (Entry V O R T)) (s : State V O R T) : Type 0 where
    -- until it sent a Bye, its holds and what it gave away are what came, what was not yet run, and the gifts that wait
    pub holds : has_bye slot.sent ≢ true → (id : ℕ)
        → holds_at s c id + gave id slot.sent
        ≡ came opening c slot.sent (got_with slot.box slot.got) id + gave id (unserved slot.box) + gifts_of id (place_of s c).gifts
    -- it gave away no more than came
    pub enough : (id : ℕ) → gave id slot.sent ≤ came opening c slot.sent slot.got id
    -- each launch that it sent is not yet run, unfinished, ready, or ended by what left for it
    pub launches : launches_in slot.sent
        ≡ launches_in (unserved slot.box) + unfinished c s.live + length (place_of s c).ready + ended_in (got_with slot.box slot.got)
    -- no more of them than the window have not ended by what it got, and none where it sent a Bye
    pub window : launches_in slot.sent ≤ WINDOW + ended_in slot.got
    pub ended : has_bye slot.sent ≡ true → launches_in slot.sent ≡ ended_in slot.got
    -- a Bye is the last that it sent
    pub last : (before after : List (Request V O R T)) → slot.sent ≡ before ++ Bye ∷ after → after ≡ []
    -- it is closed exactly where a Bye was run, and then nothing is held and no gift waits
    pub closed : (place_of s c).is_closed ≡ has_bye (ran c log)
    pub left : has_bye (ran c log) ≡ true → ((id : ℕ) → holds_at s c id ≡ 0) × ((place_of s c).gifts ≡ [])
    pub out : IsOutInOrder opening c slot.box slot log

  -- the core of a trustee is good: log, words, boxes and lists agree, and each place is accounted for
  pub record IsGood (kind : Kind V O R T) (opening : State V O R T) (core : FullCore V O R T) : Type 0 where
    pub slots : AreGoodSlots mark_of (batches kind opening) (IsLegal kind opening) core
    pub places : length core.slots ≡ place_count opening.setup
    pub accounts : (c : ℕ) → c < length core.slots → IsAccounted opening c (slot_of core c) core.log (state_after kind opening core.log)
