-- What the parts of a step do to a session.
use Rattle.std.specs.Prelude.{◌≡◌, ◌≢◌, ℕ, ◌<◌, ◌≤◌, ◌⊎◌, Bool, true, false, List, [], ◌∷◌, ◌++◌, length, Option, Some}
use Rattle.tm_base.specs.Causes.{Rose}
use Rattle.tm_base.specs.Visible.{Grows, GrowsByFront, Stays}
use Rattle.tm_asking.specs.Asking.{IsAsking, AreReplied, NoneCounts, sides_of}
use Rattle.mc_grammar.specs.declared.reader.Next.{Next}
use Rattle.mc_grammar.specs.declared.reader.Next.TheVariants as next
use Rattle.mc_model.specs.declared.message.Command.{Command}
use Rattle.mc_model.specs.declared.message.Message.{Message}
use Rattle.mc_model.specs.declared.reply.ShardReply.{ShardReply}
use Rattle.mc_model.specs.declared.reply.ShardReply.TheVariants.{Missing}
use Rattle.mc_model.specs.declared.shown.Shown.{Shown}
use Rattle.mc_model.specs.Moments.{latest}
use Rattle.mc_model.specs.Quits.{is_quit_command}
use Rattle.mc_model.specs.Rendering.{bytes_of}
use Rattle.mc_model.specs.Showing.{shown_of, shown_of_fault}
use Rattle.mc_intake.specs.declared.intake.Intake.{Intake}
use Rattle.mc_intake.specs.declared.intake.Came.{Came}
use Rattle.mc_intake.specs.declared.intake.Came.TheVariants as came
use Rattle.mc_intake.specs.Intake.{unfed, IsIntake, HasRead}
use Rattle.mc_route.specs.Plans.{frame_of}
use Rattle.mc_next.specs.declared.ended.Ended.TheVariants.{ReadFault, WriteFault, NoMemory}
use Rattle.mc_next.specs.declared.session.Session.{Session}
use Rattle.mc_next.specs.declared.work.Work.{Work}
use Rattle.mc_next.specs.Parts.{Named, StoreView, StoreQuestion}
use Rattle.mc_next.specs.Clients.{StoreBooks}
use Rattle.mc_next.specs.Works.{left_of, IsWork}
use Rattle.mc_next.specs.Steps.{MayRead, NextIsFull}

-- memory was wanting
abbrev pub without_memory : Session → Session
without_memory old = record old { stopped = Some NoMemory }

-- the bytes of what is shown were gathered, or memory was wanting
abbrev pub HasGathered : Shown → Session → Session → Type 0
HasGathered shown old new = (new ≡ record old { gathered = old.gathered ++ bytes_of shown }) ⊎ (new ≡ without_memory old)

-- the command at work had all its replies, and what it shows was gathered, or memory was wanting
pub record HasFinished {D : Type 0} (view : D → StoreView) (w : Work) (old new : Session) (books : StoreBooks D) : Type 0 where
  pub replies : List ShardReply
  pub replied : (was : ℕ → StoreView) (asked : List StoreQuestion) → length asked ≡ w.asking.asked → IsAsking view Missing was asked w.asking.replies.items books
      → AreReplied view Missing was asked replies books × ((more : List ShardReply) → IsAsking view Missing (sides_of view books) [] more books)
  pub shows : (command : Command) → w.frame ≡ frame_of command → HasGathered (shown_of command replies) old new

-- the clock was read
abbrev pub ticked : ℕ → Session → Session
ticked reading old = record old { moment = latest old.moment reading }

-- a command was taken at a reading of the clock
abbrev pub with_command : Command → ℕ → Session → Session
with_command command reading old = record old { moment = latest old.moment reading; quit = is_quit_command command }

-- a command that was taken is at work; or it asks nothing and was shown; or memory was wanting
abbrev pub HasBegun : {D : Type 0} → (D → StoreView) → Command → ℕ → Session → Session → StoreBooks D → Type 0
HasBegun view command trustees old new books =
    ((w : Work) × ((named : Named) → IsWork named trustees command old.moment [] w) × (left_of w.todo ≢ []) × (new ≡ record old { work = Some w }))
    ⊎ (((w : Work) × ((named : Named) → IsWork named trustees command old.moment [] w) × (left_of w.todo ≡ []) × HasFinished view w old new books)
    ⊎ (new ≡ without_memory old))

-- What the intake gave was taken: a command at a reading of the clock, or a fault, which was shown; or there was no message, and nothing was
-- done.
abbrev pub HasMet : {D W : Type 0} → (D → StoreView) → ℕ → Next → Option (List ℕ) → Option (List ℕ) → W → W → Session → Session → StoreBooks D → Bool → Type 0
HasMet view trustees (next.Command command) told told_now clock clock_now old new books went =
    (went ≡ true) × ((reading : ℕ) × Grows told told_now (reading ∷ []) × HasBegun view command trustees (with_command command reading old) new books)
HasMet view trustees (next.Fault fault) told told_now clock clock_now old new books went =
    (went ≡ true) × HasGathered (shown_of_fault fault) old new × (clock_now ≡ clock)
HasMet view trustees next.More told told_now clock clock_now old new books went = (went ≡ false) × (new ≡ old) × (clock_now ≡ clock)

-- a message was taken, or what was in hand was fed and gave none: fewer bytes are to be fed, or memory was wanting; what is known of the source
-- stays
pub record HasTakenOne (old new : Session) : Type 0 where
  pub left : new.intake.left ≡ old.intake.left
  pub at_end : new.at_end ≡ old.at_end
  pub too_much : new.too_much ≡ old.too_much
  pub over : new.over ≡ old.over
  pub falls : (new.stopped ≡ Some NoMemory) ⊎ ((new.stopped ≡ old.stopped) × (length (unfed new.intake) < length (unfed old.intake)))

-- some bytes of what was in hand were fed, or none
pub record FeedsOnly (old new : Intake) : Type 0 where
  pub left : new.left ≡ old.left
  pub fed : length (unfed new) ≤ length (unfed old)
  pub keeps : (limit : ℕ) (text : List ℕ) (messages : List Message) → IsIntake limit text messages old → IsIntake limit text messages new

-- what was in hand was fed, and gave no further message
pub record HasNoMore (old new : Intake) : Type 0 where
  pub left : new.left ≡ old.left
  pub fed : unfed new ≡ []
  pub keeps : (limit : ℕ) (text : List ℕ) (messages : List Message) → IsIntake limit text messages old → IsIntake limit text messages new

-- what was gathered was written, and the sink's count of faults stays; or a front of it, and the count rose
abbrev pub HasWritten : Option (List ℕ) → Option (List ℕ) → ℕ → ℕ → Session → Session → Type 0
HasWritten before now faults faults_now old new =
    (Grows before now old.gathered × (new ≡ record old { gathered = [] }) × (faults_now ≡ faults))
    ⊎ (GrowsByFront before now old.gathered × (new ≡ record old { stopped = Some WriteFault }) × Rose faults faults_now)

-- what a read brought stands in the session
abbrev pub told_by : Came → Intake → Session → Session
told_by came.Some intake old = record old { intake = intake }
told_by came.TooMuch intake old = record old { intake = intake; too_much = true }
told_by came.End intake old = record old { intake = intake; at_end = true }

-- a read brought something, and the source's count of faults stays; or it failed, and the count rose
abbrev pub HasReadOnce : Option (List ℕ) → Option (List ℕ) → ℕ → ℕ → Session → Session → Type 0
HasReadOnce before now faults faults_now old new =
    ((said : Came) × (intake : Intake) × (new ≡ told_by said intake old) × (faults_now ≡ faults) × (said ≡ came.End → unfed intake ≡ [])
    × ((limit : ℕ) (text : List ℕ) (messages : List Message) → IsIntake limit text messages old.intake → HasRead limit text messages said before now intake))
    ⊎ ((intake : Intake) × (new ≡ record old { intake = intake; stopped = Some ReadFault }) × Rose faults faults_now × Stays before now × (unfed intake ≡ [])
    × ((limit : ℕ) (text : List ℕ) (messages : List Message) → IsIntake limit text messages old.intake → IsIntake limit text messages intake))

-- ---- what is done where no command is at work

-- what was gathered was written, which was something
pub record WroteOnly {A W : Type 0} (told told_now : Option (List ℕ)) (faults faults_now : ℕ) (source source_now : A) (clock clock_now : W) (old new : Session) : Type 0 where
  pub some : old.gathered ≢ []
  pub fed : Intake
  pub feeds : FeedsOnly old.intake fed
  pub written : HasWritten told told_now faults faults_now (record old { intake = fed }) new
  pub source_is : source_now ≡ source
  pub clock_is : clock_now ≡ clock

-- a message was taken
pub record TookOnly {A B : Type 0} (source source_now : A) (sink sink_now : B) (old new : Session) : Type 0 where
  pub taken : HasTakenOne old new
  pub source_is : source_now ≡ source
  pub sink_is : sink_now ≡ sink

-- what was in hand was fed and gave no message, and then a read was made
pub record ReadOnly {B W : Type 0} (told told_now : Option (List ℕ)) (faults faults_now : ℕ) (sink sink_now : B) (clock clock_now : W) (old new : Session) : Type 0 where
  pub may : MayRead old
  pub fed : Intake
  pub none : HasNoMore old.intake fed
  pub has_intake : (limit : ℕ) × (text : List ℕ) × (messages : List Message) × IsIntake limit text messages old.intake
  pub reads : HasReadOnce told told_now faults faults_now (record old { intake = fed }) new
  pub sink_is : sink_now ≡ sink
  pub clock_is : clock_now ≡ clock

-- one of these
abbrev pub HasGoneIdle : {A B W : Type 0} → Option (List ℕ) → Option (List ℕ) → ℕ → ℕ → Option (List ℕ) → Option (List ℕ) → ℕ → ℕ → A → A → B → B → W → W → Session → Session → Type 0
HasGoneIdle left left_now read_faults read_faults_now written written_now write_faults write_faults_now source source_now sink sink_now clock clock_now old new =
    WroteOnly written written_now write_faults write_faults_now source source_now clock clock_now old new
    ⊎ (TookOnly source source_now sink sink_now old new
    ⊎ ReadOnly left left_now read_faults read_faults_now sink sink_now clock clock_now old new)

-- ---- what is done for the command at work

-- nothing was asked or taken of it, for its next question finds its window full, or all was asked; nothing arrived, and a request counts
pub record RestsAtWork {D : Type 0} (w : Work) (old new : Session) (books : StoreBooks D) : Type 0 where
  pub becomes : Work
  pub session : new ≡ record old { work = Some becomes }
  pub left : left_of becomes.todo ≡ left_of w.todo
  pub full : NextIsFull (Some becomes) books
  pub counts : ¬ (NoneCounts books)
  pub none : books.arrived.items ≡ []
