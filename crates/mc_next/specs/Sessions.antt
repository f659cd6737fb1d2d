-- What holds of a session between two steps, and of what it keeps besides what it shows.
use Rattle.std.specs.Prelude.{◌≡◌, ◌≢◌, ℕ, ◌<◌, ◌≤◌, ◌⊎◌, Bool, true, false, List, [], ◌∷◌, ◌++◌, length, Option, Some, None}
use Rattle.tm_base.specs.Visible.{Grows}
use Rattle.tm_asking.specs.Questions.{requests_at, replies_at, HasAskedAll}
use Rattle.tm_asking.specs.Asking.{IsAsking, NoneCounts, sides_of}
use Rattle.mc_model.specs.declared.message.Command.{Command}
use Rattle.mc_model.specs.declared.message.Message.{Message}
use Rattle.mc_model.specs.declared.message.Message.TheVariants as message
use Rattle.mc_model.specs.declared.reply.ShardReply.{ShardReply}
use Rattle.mc_model.specs.declared.reply.ShardReply.TheVariants.{Missing}
use Rattle.mc_model.specs.Moments.{latest}
use Rattle.mc_model.specs.Quits.{has_quit, until_quit}
use Rattle.mc_model.specs.Rendering.{rendered}
use Rattle.mc_model.specs.Showing.{commands_of, shown_of_all}
use Rattle.mc_intake.specs.declared.intake.Intake.{Intake}
use Rattle.mc_intake.specs.Intake.{unfed, IsIntake}
use Rattle.mc_next.specs.declared.ended.Ended.{Ended}
use Rattle.mc_next.specs.declared.ended.Ended.TheVariants.{AtEnd, Quit, Inside, ReadFault, WriteFault, TooMuch, NoMemory}
use Rattle.mc_next.specs.declared.work.Work.{Work}
use Rattle.mc_next.specs.declared.session.Session.{Session}
use Rattle.mc_next.specs.Parts.{StoreQuestion, StoreView}
use Rattle.mc_next.specs.Runs.{Setting, SessionView, CameSoFar, CameWhole, HaveReplies, WritesFront, asked_for, all_of, HasRun, AreAskedInTurn, IsInTurn, last_of}
use Rattle.tm_client.specs.declared.trust.Trust.{Trust}
use Rattle.mc_next.specs.Works.{named_by, IsWork}
use Rattle.mc_next.specs.Clients.{StoreBooks}

-- What came so far, for contracts alone: the text, the messages that are answered and the one at work, the readings of the clock, the replies
-- to each command that is answered, and what was written.
pub record Past : Type 0 where
  pub text : List ℕ
  pub answered : List Message
  pub begun : List Message
  pub readings : List ℕ
  pub replies : List (List ShardReply)
  pub written : List ℕ

-- the messages that were taken
abbrev pub taken : Past → List Message
taken p = p.answered ++ p.begun

-- the greatest of a moment and some readings
abbrev pub latest_of : ℕ → List ℕ → ℕ
latest_of moment [] = moment
latest_of moment (reading ∷ readings) = latest_of (latest moment reading) readings

-- this text came of the source, and its first bytes, as many as are answered, are the messages that were taken, and then what is in hand
pub record HasCome (limit : ℕ) (text : List ℕ) (messages : List Message) (intake : Intake) (quit at_end too_much : Bool) (before now : Option (List ℕ)) : Type 0 where
  pub came : CameSoFar before now text
  pub ended : at_end ≡ true → CameWhole before now text × (unfed intake ≡ []) × (too_much ≡ false)
  pub fits : too_much ≡ false → length text ≤ limit
  pub above : too_much ≡ true → limit < length text
  pub is_intake : IsIntake limit text messages intake
  pub until : until_quit messages ≡ messages
  pub quit_is : quit ≡ has_quit messages

-- the clock was read once for each command that was taken
pub record HasTicked (readings : List ℕ) (messages : List Message) (moment : ℕ) (before now : Option (List ℕ)) : Type 0 where
  pub is_read : Grows before now readings
  pub once : length readings ≡ length (commands_of messages)
  pub latest_is : moment ≡ latest_of 0 readings

-- of what the answered messages show some is written, and the rest is gathered
pub record HasShown (s : Setting) (p : Past) (gathered : List ℕ) (before now : Option (List ℕ)) : Type 0 where
  pub each : HaveReplies (asked_for s p.answered p.readings) p.replies
  pub is_written : Grows before now p.written
  pub gathered_is : p.written ++ gathered ≡ rendered (shown_of_all p.answered p.replies)

-- the questions of the answered messages were asked and replied, at each trustee
abbrev pub HasReplied : Setting → Past → (ℕ → StoreView) → (ℕ → StoreView) → Type 0
HasReplied s p before was = (t : ℕ) → t < s.trustees
    → HasAskedAll Missing (requests_at t (all_of (asked_for s p.answered p.readings)))
    (replies_at t (all_of (asked_for s p.answered p.readings)) (all_of p.replies)) (before t) (was t)

-- since its sides stood so, the client was asked these questions of the command at work, of which some replies were taken; where nothing is at
-- work, whatever has the places for replies
abbrev pub AsksFor : {D : Type 0} → (D → StoreView) → (ℕ → StoreView) → List StoreQuestion → Option Work → StoreBooks D → Type 0
AsksFor view was asked None books = (replies : List ShardReply) → IsAsking view Missing was asked replies books
AsksFor view was asked (Some w) books = IsAsking view Missing was asked w.asking.replies.items books

-- nothing is at work, and no request counts; or a command is
abbrev pub IsAtWork : {D : Type 0} → Setting → List Message → ℕ → List StoreQuestion → Option Work → StoreBooks D → Type 0
IsAtWork s begun moment asked None books = (begun ≡ []) × (asked ≡ []) × NoneCounts books
IsAtWork s begun moment asked (Some w) books = (command : Command) × (begun ≡ message.Command command ∷ []) × IsWork s.named s.trustees command moment asked w

-- Behind the answered messages those questions of the command at work were asked of the client that are not left. Commands were asked in turn:
-- the marks are the client's sides at the end of each that was answered, and so they stood when that at work began.
pub record HasAskedOn {D : Type 0} (view : D → StoreView) (s : Setting) (marks : List (ℕ → StoreView)) (p : Past) (moment : ℕ) (work : Option Work)
    (before : ℕ → StoreView) (books : StoreBooks D) : Type 0 where
  pub was : ℕ → StoreView
  pub answered : HasReplied s p before was
  pub in_turn : AreAskedInTurn s.trustees (asked_for s p.answered p.readings) p.replies before marks
  pub was_is : was ≡ last_of before marks
  pub asked : List StoreQuestion
  pub asks : AsksFor view was asked work books
  pub at_work : IsAtWork s p.begun moment asked work books

-- not all that was taken is answered and written, or more may come
abbrev pub IsNotOver : Session → Type 0
IsNotOver session = session.work ≡ None → session.gathered ≡ []
    → (session.quit ≡ false) × (session.at_end ≡ false) × (session.too_much ≡ true → unfed session.intake ≢ [])

-- so far, without a fault, and with these marks
pub record IsOn {D : Type 0} (view : D → StoreView) (s : Setting) (marks : List (ℕ → StoreView)) (session : Session) (first now : SessionView) (books : StoreBooks D) : Type 0 where
  pub past : Past
  pub input : HasCome s.limit past.text (taken past) session.intake session.quit session.at_end session.too_much first.input now.input
  pub clock : HasTicked past.readings (taken past) session.moment first.clock now.clock
  pub output : HasShown s past session.gathered first.output now.output
  pub client : HasAskedOn view s marks past session.moment session.work first.sides books

-- after a fault of the sink or for want of memory: of what the answered messages show a front is written, and of the questions of the
-- message that was given up, one at most, the first were asked
pub record HasGivenUp {D : Type 0} (view : D → StoreView) (s : Setting) (marks : List (ℕ → StoreView)) (session : Session) (first now : SessionView) (books : StoreBooks D) : Type 0 where
  pub past : Past
  pub input : HasCome s.limit past.text (taken past) session.intake session.quit session.at_end session.too_much first.input now.input
  pub clock : HasTicked past.readings (taken past) session.moment first.clock now.clock
  pub each : HaveReplies (asked_for s past.answered past.readings) past.replies
  pub is_written : WritesFront first.output now.output (rendered (shown_of_all past.answered past.replies))
  pub was : ℕ → StoreView
  pub answered : HasReplied s past first.sides was
  pub in_turn : AreAskedInTurn s.trustees (asked_for s past.answered past.readings) past.replies first.sides marks
  pub was_is : was ≡ last_of first.sides marks
  pub few : length (commands_of past.begun) ≤ 1
  pub asked : List StoreQuestion
  pub others : List StoreQuestion
  pub questions : all_of (asked_for s past.answered past.readings) ++ (asked ++ others) ≡ all_of (asked_for s (taken past) past.readings)
  pub asks : AsksFor view was asked session.work books

-- what holds of a session that stopped for this reason, in the step in which it did; a failed read comes where all that came is answered and
-- written
abbrev pub HasStoppedFor : {D : Type 0} → (D → StoreView) → Setting → List (ℕ → StoreView) → Ended → Session → SessionView → SessionView → StoreBooks D → Type 0
HasStoppedFor view s marks WriteFault session first now books = HasGivenUp view s marks session first now books
HasStoppedFor view s marks NoMemory session first now books = HasGivenUp view s marks session first now books
HasStoppedFor view s marks ReadFault session first now books =
    IsOn view s marks session first now books × (session.work ≡ None) × (session.gathered ≡ []) × (unfed session.intake ≡ []) × (session.quit ≡ false)
    × (session.too_much ≡ false)
HasStoppedFor view s marks _ session first now books = ⊥

-- what holds of a session by whether it stopped
abbrev pub IsGoing : {D : Type 0} → (D → StoreView) → Setting → List (ℕ → StoreView) → Option Ended → Session → SessionView → SessionView → StoreBooks D → Type 0
IsGoing view s marks None session first now books = IsOn view s marks session first now books
IsGoing view s marks (Some why) session first now books = HasStoppedFor view s marks why session first now books

-- no command was answered; or one was, at whose end the client's sides stood so, and no request of it counted
abbrev pub HasMarked : {D : Type 0} → (D → StoreView) → StoreBooks D → List (ℕ → StoreView) → Type 0
HasMarked view books more = (more ≡ []) ⊎ ((more ≡ sides_of view books ∷ []) × NoneCounts books)

-- what holds of a session behind these marks, and behind that of a command that was answered just now, if one was
abbrev pub IsGoingOn : {D : Type 0} → (D → StoreView) → Setting → List (ℕ → StoreView) → Session → SessionView → SessionView → StoreBooks D → Type 0
IsGoingOn view s marks session first now books =
    (more : List (ℕ → StoreView)) × HasMarked view books more × IsGoing view s (marks ++ more) session.stopped session first now books

-- a session that stopped and is not over waits for answers
abbrev pub IsNotDone : {D : Type 0} → Option Ended → Session → StoreBooks D → Type 0
IsNotDone None session books = IsNotOver session
IsNotDone (Some why) session books = ¬ (NoneCounts books)

abbrev pub Holds : {D : Type 0} → (D → StoreView) → Setting → List (ℕ → StoreView) → Option Ended → Session → SessionView → SessionView → StoreBooks D → Type 0
Holds view s marks (Some ended) session first now books = (run : HasRun s ended first now) × IsInTurn s marks ended first now run × NoneCounts books
Holds view s marks None session first now books = IsGoing view s marks session.stopped session first now books × IsNotDone session.stopped session books

-- What holds of a session between two steps, by what client and devices told before its first step, and tell now, and by the marks: the client's
-- sides at the end of each command that was answered, in order.
abbrev pub IsSession : {D : Type 0} → (D → StoreView) → Setting → List (ℕ → StoreView) → Session → SessionView → SessionView → StoreBooks D → Type 0
IsSession view s marks session first now books = Holds view s marks session.over session first now books

-- a setting is that of these trusts, one trustee's after another's, of so many trustees
pub record IsOf (s : Setting) (trusts : List Trust) (trustees : ℕ) : Type 0 where
  pub names : s.named ≡ named_by trusts
  pub trustees_are : s.trustees ≡ trustees

-- what client and devices tell
abbrev pub seen : {D : Type 0} → (D → StoreView) → StoreBooks D → Option (List ℕ) → Option (List ℕ) → Option (List ℕ) → SessionView
seen view books left readings written = record { sides = sides_of view books; input = left; clock = readings; output = written }

-- a session before its first step: nothing was read, taken or gathered, and it has not stopped
pub record IsFresh (limit : ℕ) (session : Session) : Type 0 where
  pub limit_is : session.limit ≡ limit
  pub intake : IsIntake limit [] [] session.intake
  pub moment : session.moment ≡ 0
  pub work : session.work ≡ None
  pub gathered : session.gathered ≡ []
  pub quit : session.quit ≡ false
  pub at_end : session.at_end ≡ false
  pub too_much : session.too_much ≡ false
  pub stopped : session.stopped ≡ None
  pub over : session.over ≡ None

-- ---- how a session ends

-- how the input of an idle session has ended, of which nothing is gathered
abbrev pub HasEndedSo : Ended → Session → Type 0
HasEndedSo Quit session = session.quit ≡ true
HasEndedSo AtEnd session = (session.quit ≡ false) × (session.at_end ≡ true)
    × ((limit : ℕ) (text : List ℕ) (messages : List Message) (i : IsIntake limit text messages session.intake) → i.is_read.held ≡ [])
HasEndedSo Inside session = (session.quit ≡ false) × (session.at_end ≡ true)
    × ((limit : ℕ) (text : List ℕ) (messages : List Message) (i : IsIntake limit text messages session.intake) → i.is_read.held ≢ [])
HasEndedSo TooMuch session = (session.quit ≡ false) × (session.too_much ≡ true) × (unfed session.intake ≡ [])
HasEndedSo _ session = ⊥

-- an input that has not ended
abbrev pub HasNotEnded : Session → Type 0
HasNotEnded session = (session.quit ≡ false) × (session.at_end ≡ false) × (session.too_much ≡ true → unfed session.intake ≢ [])

-- how a session is over: it stopped, and no request counts; or its input has ended, and nothing is at work or gathered
abbrev pub IsOverSo : {D : Type 0} → Ended → Session → StoreBooks D → Type 0
IsOverSo ended session books =
    ((session.stopped ≡ Some ended) × NoneCounts books)
    ⊎ ((session.stopped ≡ None) × (session.work ≡ None) × (session.gathered ≡ []) × HasEndedSo ended session)
