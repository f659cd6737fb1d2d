-- What a step did, by what a session shows and what its client and devices are.
use Rattle.std.specs.Prelude.{◌≡◌, ◌≢◌, ℕ, ◌+◌, ◌<◌, ◌⊎◌, Bool, true, false, List, [], ◌∷◌, ◌++◌, length, slice_get, Option, Some, None}
use Rattle.tm_base.specs.Causes.{Rose}
use Rattle.tm_pair.specs.Calls.{IsPending}
use Rattle.tm_pair.specs.Theory.{Theory}
use Rattle.tm_client.specs.Clients.{IsClient}
use Rattle.tm_asking.specs.declared.turning.Turned.{Turned}
use Rattle.tm_asking.specs.declared.turning.Turned.TheVariants.{Moved}
use Rattle.tm_asking.specs.Asking.{NoneCounts}
use Rattle.tm_asking.specs.Turning.{TurnsBelow}
use Rattle.mc_grammar.specs.declared.progress.Progress.{Progress}
use Rattle.mc_model.specs.declared.message.Message.{Message}
use Rattle.mc_model.specs.declared.reply.ShardReply.{ShardReply}
use Rattle.mc_shard.specs.declared.op.ShardOp.{ShardOp}
use Rattle.mc_route.specs.Places.{StoreValue}
use Rattle.mc_intake.specs.declared.intake.Intake.{Intake}
use Rattle.mc_intake.specs.Intake.{unfed, IsIntake}
use Rattle.mc_next.specs.declared.ended.Ended.{Ended}
use Rattle.mc_next.specs.declared.ended.Ended.TheVariants.{ReadFault, WriteFault, NoMemory}
use Rattle.mc_next.specs.declared.piece.Piece.{Piece}
use Rattle.mc_next.specs.declared.work.Work.{Work}
use Rattle.mc_next.specs.declared.session.Session.{Session}
use Rattle.mc_next.specs.Parts.{StoreTask, StoreView, store_kind}
use Rattle.mc_next.specs.Clients.{StoreBooks, StoreLane}
use Rattle.mc_next.specs.Works.{left_of, StoreState, KeepsClient, KeepsWaits, IsFullFor}

-- ---- what a session shows

-- how many commands may be at work at once
abbrev pub most_at_work : ℕ
most_at_work = 1

-- how many are
abbrev pub pending_in : Option Work → ℕ
pending_in None = 0
pending_in (Some w) = 1

-- how many questions of what is at work are still to be asked
abbrev pub unasked_in : Option Work → ℕ
unasked_in None = 0
unasked_in (Some w) = length (left_of w.todo)

-- What a session shows of itself: how many more bytes are answered, whether more came, whether a read gave the end, and whether a `quit` was
-- taken; how many commands are taken and not answered, and how many questions of theirs are not asked; what of the bytes read is not fed to
-- its reader, and what its reader has of a message; the bytes that are still to be written; why nothing more is asked or written, after a
-- fault or for want of memory; and how it ended.
pub record Shown : Type 0 where
  pub left : ℕ
  pub too_much : Bool
  pub at_end : Bool
  pub quit : Bool
  pub pending : ℕ
  pub unasked : ℕ
  pub unfed : List ℕ
  pub reader : Progress
  pub gathered : List ℕ
  pub stopped : Option Ended
  pub over : Option Ended

abbrev pub shown_by : Session → Shown
shown_by session = record {
  left = session.intake.left;
  too_much = session.too_much;
  at_end = session.at_end;
  quit = session.quit;
  pending = pending_in session.work;
  unasked = unasked_in session.work;
  unfed = unfed session.intake;
  reader = session.intake.reader;
  gathered = session.gathered;
  stopped = session.stopped;
  over = session.over;
}

-- ---- a step that did nothing

-- a lane sent, got and lets wait what it did before, and so much is out
pub record IsLaneStill {D : Type 0} (view : D → StoreView) (lane becomes : StoreLane D) : Type 0 where
  pub sent : (view becomes.side).sent ≡ (view lane.side).sent
  pub out : (view becomes.side).out ≡ (view lane.side).out
  pub got : (view becomes.side).got ≡ (view lane.side).got
  pub waits : becomes.waits ≡ lane.waits

-- a client was asked nothing, sent and got nothing, and handed nothing out
pub record IsClientStill {D : Type 0} (view : D → StoreView) (old new : StoreBooks D) : Type 0 where
  pub lanes : (t : ℕ) (lane becomes : StoreLane D) → slice_get old.lanes.items t ≡ Some lane → slice_get new.lanes.items t ≡ Some becomes → IsLaneStill view lane becomes
  pub arrived : new.arrived ≡ old.arrived

-- A step read, took, asked, sent, got and wrote nothing. What a session keeps and does not show may have changed.
pub record IsStill {D A B W : Type 0} (view : D → StoreView) (old new : Session) (books books_new : StoreBooks D) (source source_new : A) (sink sink_new : B)
    (clock clock_new : W) : Type 0 where
  pub shown : shown_by new ≡ shown_by old
  pub client : IsClientStill view books books_new
  pub source_is : source_new ≡ source
  pub sink_is : sink_new ≡ sink
  pub clock_is : clock_new ≡ clock

-- at a lane where a request counts one turn was made, and looked and found nothing; at another there was none
abbrev pub IsLanePending : {D : Type 0} → (D → StoreView) → StoreLane D → StoreLane D → Type 0
IsLanePending view lane becomes =
    ((lane.counting ≡ 0) × (becomes ≡ lane))
    ⊎ ((lane.counting ≢ 0) × IsPending (view lane.side) (view becomes.side) × (becomes ≡ record lane { side = becomes.side }))

-- at each trustee where a request counts one turn was made, and each of these looked and found nothing
pub record AllPending {D : Type 0} (view : D → StoreView) (old new : StoreBooks D) : Type 0 where
  pub many : length new.lanes.items ≡ length old.lanes.items
  pub lanes : (t : ℕ) (lane becomes : StoreLane D) → slice_get old.lanes.items t ≡ Some lane → slice_get new.lanes.items t ≡ Some becomes → IsLanePending view lane becomes
  pub arrived : new.arrived ≡ old.arrived

-- the window of the next question that is to be asked is full
abbrev pub NextIsFull : {D : Type 0} → Option Work → StoreBooks D → Type 0
NextIsFull None books = Unit {0}
NextIsFull (Some w) books = (piece : Piece) (others : List Piece) → left_of w.todo ≡ piece ∷ others → IsFullFor (length books.lanes.items) piece books

-- no command may be taken and no question asked, and all that was answered is written
pub record MayDoNothing {D : Type 0} (session : Session) (books : StoreBooks D) : Type 0 where
  pub busy : pending_in session.work ≡ most_at_work
  pub full : NextIsFull session.work books
  pub is_written : session.gathered ≡ []

-- A step did nothing but to look for answers, of which there is none. A request counts: where the session has not stopped, it is one of the
-- command that is not answered.
pub record IsWaiting {D A B W : Type 0} (view : D → StoreView) (old new : Session) (books books_new : StoreBooks D) (source source_new : A) (sink sink_new : B)
    (clock clock_new : W) : Type 0 where
  pub still : IsStill view old new books books_new source source_new sink sink_new clock clock_new
  pub looked : AllPending view books books_new
  pub counts : ¬ (NoneCounts books_new)
  pub waits : new.stopped ≡ None → MayDoNothing new books_new

-- ---- a step that did something

abbrev pub one_unless : Bool → ℕ
one_unless true = 0
one_unless false = 1

abbrev pub one_where_none : Option Ended → ℕ
one_where_none None = 1
one_where_none (Some why) = 0

abbrev pub one_where_some : List ℕ → ℕ
one_where_some [] = 0
one_where_some (byte ∷ bytes) = 1

-- What is before a session: whether it goes on; how much may still come of its source, a byte counting one and each of its two ends too; how
-- many bytes are to be fed, and commands to be answered; whether bytes are to be written; and how many questions are to be asked.
abbrev pub before_of : Session → List ℕ
before_of session =
    one_where_none session.stopped ∷ (session.intake.left + one_unless session.too_much + one_unless session.at_end) ∷ length (unfed session.intake)
    ∷ pending_in session.work ∷ one_where_some session.gathered ∷ unasked_in session.work ∷ []

-- of two lists of numbers the first one that differs is less
abbrev pub IsLess : List ℕ → List ℕ → Type 0
IsLess [] ys = ⊥
IsLess (x ∷ xs) [] = ⊥
IsLess (x ∷ xs) (y ∷ ys) = (x < y) ⊎ ((x ≡ y) × IsLess xs ys)

-- of what arrived some was taken, and all of it; a client's sides, and what waits at them, stay
pub record HasTakenSome {D : Type 0} (books books_new : StoreBooks D) : Type 0 where
  pub some : books.arrived.items ≢ []
  pub none : books_new.arrived.items ≡ []
  pub keeps : KeepsClient books books_new
  pub waits : KeepsWaits books books_new

-- less is before a session; or as much, and some answers were taken
abbrev pub HasWorkedOn : {D : Type 0} → Session → Session → StoreBooks D → StoreBooks D → Type 0
HasWorkedOn old new books books_new = IsLess (before_of new) (before_of old) ⊎ ((before_of new ≡ before_of old) × HasTakenSome books books_new)

-- calls of a client's own: its sides and trusts, and what is closed and fetched, stay, and it is a client still
pub record HasCalled {D : Type 0} (view : D → StoreView) (books books_new : StoreBooks D) : Type 0 where
  pub keeps : KeepsClient books books_new
  pub client : (openings : ℕ → StoreState) → IsClient view openings books → IsClient view openings books_new

module _ {D Table Owner : Type 0} (theory : Theory StoreValue ShardOp ShardReply StoreTask Table D Owner) where
  -- turns of the client, one at each trustee where a request counts, sent or got something
  abbrev pub HasTurnedSome : List Table → StoreBooks D → List Table → StoreBooks D → Type 0
  HasTurnedSome tables books tables_new books_new =
      TurnsBelow theory store_kind (length tables) Moved tables books tables_new books_new

  -- A step read, took, wrote, asked or answered something, and less is before the session; or as much is, and it took answers in, or sent or
  -- got something.
  abbrev pub HasAdvanced : Session → Session → List Table → StoreBooks D → List Table → StoreBooks D → Type 0
  HasAdvanced old new tables books tables_new books_new =
      IsLess (before_of new) (before_of old)
      ⊎ ((before_of new ≡ before_of old)
      × ((HasTakenSome books books_new × (tables_new ≡ tables)) ⊎ HasTurnedSome tables books tables_new books_new))

  -- The step made calls of the client's own, if any, and left the tables as they were; or it made turns of the client, one at each trustee
  -- where a request counts, in order, and nothing else.
  abbrev pub AsksOrTurns : List Table → StoreBooks D → List Table → StoreBooks D → Type 0
  AsksOrTurns tables books tables_new books_new =
      ((tables_new ≡ tables) × HasCalled theory.client_view books books_new)
      ⊎ ((told : Turned) × TurnsBelow theory store_kind (length tables) told tables books tables_new books_new)

-- ---- what a step leaves alone

-- a client's trusts stay, no trustee was closed, and `fetch` was called for none
pub record KeepsMarks {D : Type 0} (books books_new : StoreBooks D) : Type 0 where
  pub number : books_new.number ≡ books.number
  pub held : books_new.held ≡ books.held
  pub many : length books_new.lanes.items ≡ length books.lanes.items
  pub marks : (t : ℕ) (lane becomes : StoreLane D) → slice_get books.lanes.items t ≡ Some lane → slice_get books_new.lanes.items t ≡ Some becomes
      → (becomes.closing ≡ lane.closing) × (becomes.fetching ≡ true → lane.fetching ≡ true)

-- A session may read: all whole messages of what came were taken, answered and written, no `quit` was taken, and no read gave the end or more
-- than is answered.
pub record MayRead (session : Session) : Type 0 where
  pub running : session.stopped ≡ None
  pub idle : session.work ≡ None
  pub is_written : session.gathered ≡ []
  pub no_quit : session.quit ≡ false
  pub no_end : session.at_end ≡ false
  pub within : session.too_much ≡ false
  -- what is in hand, fed, gives no further message
  pub all_taken : (limit : ℕ) (text : List ℕ) (messages : List Message) → IsIntake limit text messages session.intake
      → (intake : Intake) × IsIntake limit text messages intake × (unfed intake ≡ [])

module _ {D : Type 0} where
  -- at each trustee what was asked, sent or not, stays
  abbrev pub AsksNothing : (D → StoreView) → StoreBooks D → StoreBooks D → Type 0
  AsksNothing view books books_new =
      (t : ℕ) (lane becomes : StoreLane D) → slice_get books.lanes.items t ≡ Some lane → slice_get books_new.lanes.items t ≡ Some becomes
      → (view becomes.side).sent ++ becomes.waits.items ≡ (view lane.side).sent ++ lane.waits.items

-- After a fault or want of memory nothing is read, taken, asked or written: what was asked is sent, and what comes is dropped.
pub record IsDraining {D A B W : Type 0} (view : D → StoreView) (old new : Session) (books books_new : StoreBooks D) (source source_new : A) (sink sink_new : B)
    (clock clock_new : W) : Type 0 where
  pub session : new ≡ record old { work = new.work; over = new.over }
  pub lanes : AsksNothing view books books_new
  pub source_is : source_new ≡ source
  pub sink_is : sink_new ≡ sink
  pub clock_is : clock_new ≡ clock

-- why a session stopped in a step, by the counts of faults of its source and its sink before and after: a fault is one where its count rose,
-- and a count rose only where this is why
abbrev pub IsCaused : Option Ended → ℕ → ℕ → ℕ → ℕ → Type 0
IsCaused None reads reads_now writes writes_now = (reads_now ≡ reads) × (writes_now ≡ writes)
IsCaused (Some ReadFault) reads reads_now writes writes_now = Rose reads reads_now × (writes_now ≡ writes)
IsCaused (Some WriteFault) reads reads_now writes writes_now = Rose writes writes_now × (reads_now ≡ reads)
IsCaused (Some NoMemory) reads reads_now writes writes_now = (reads_now ≡ reads) × (writes_now ≡ writes)
IsCaused (Some _) reads reads_now writes writes_now = ⊥
