-- What a session has done of a stream, by what the client's sides at the trustees tell and by what its devices tell.
use Rattle.std.specs.Prelude.{◌≡◌, ◌≢◌, ℕ, ◌<◌, ◌≤◌, true, false, List, [], ◌∷◌, ◌++◌, length, take, Option, Some}
use Rattle.std.specs.List.{AllZip, flat_map}
use Rattle.tm_base.specs.Visible.{Grows}
use Rattle.mc_model.specs.declared.message.Message.{Message}
use Rattle.mc_model.specs.declared.reply.ShardReply.{ShardReply}
use Rattle.mc_model.specs.declared.reply.ShardReply.TheVariants.{Missing}
use Rattle.mc_model.specs.Moments.{moments_of}
use Rattle.mc_model.specs.Quits.{has_quit, until_quit}
use Rattle.mc_model.specs.Rendering.{rendered}
use Rattle.mc_model.specs.Showing.{commands_of, shown_of_all}
use Rattle.mc_model.specs.Stream.{Reads}
use Rattle.tm_asking.specs.Questions.{replies_at, requests_at, HasAskedAll, HasAskedSome}
use Rattle.mc_next.specs.declared.ended.Ended.{Ended}
use Rattle.mc_next.specs.declared.ended.Ended.TheVariants.{AtEnd, Quit, Inside, ReadFault, WriteFault, TooMuch, NoMemory}
use Rattle.mc_next.specs.Parts.{Named, StoreQuestion, StoreView, questions_each}

-- What a session stands on: the names of the store's objects, how many trustees there are, and how many bytes of the input are answered.
pub record Setting : Type 0 where
  pub named : Named
  pub trustees : ℕ
  pub limit : ℕ

-- What the client and the devices of a session tell: the client's side at each trustee, by its number; the bytes still to come; the
-- readings of the clock so far; the bytes written so far.
pub record SessionView : Type 0 where
  pub sides : ℕ → StoreView
  pub input : Option (List ℕ)
  pub clock : Option (List ℕ)
  pub output : Option (List ℕ)

-- ---- what was asked and replied

-- the commands among some messages, each at the moment of its reading, ask these questions, command by command
abbrev pub asked_for : Setting → List Message → List ℕ → List (List StoreQuestion)
asked_for s messages readings = questions_each s.named s.trustees (commands_of messages) (moments_of readings)

-- all of them in one list
abbrev pub all_of : {X : Type 0} → List (List X) → List X
all_of lists = flat_map (λ xs. xs) lists

-- there are as many replies to each command as questions
abbrev pub HaveReplies : List (List StoreQuestion) → List (List ShardReply) → Type 0
HaveReplies questions replies = AllZip (λ qs rs. length qs ≡ length rs) questions replies

-- ---- whole runs

-- Messages were answered. The clock was read once for each command. At each trustee the client's sent list grew by exactly the questions
-- there, in order, and the replies are those that the entries of these have in the log that the client has seen. The output grew by what
-- the messages show with these replies.
pub record IsWholeRun (s : Setting) (messages : List Message) (before after : SessionView) : Type 0 where
  pub readings : List ℕ
  pub is_read : Grows before.clock after.clock readings
  pub once : length readings ≡ length (commands_of messages)
  pub replies : List (List ShardReply)
  pub each : HaveReplies (asked_for s messages readings) replies
  pub asked : (t : ℕ) → t < s.trustees
      → HasAskedAll Missing (requests_at t (all_of (asked_for s messages readings))) (replies_at t (all_of (asked_for s messages readings)) (all_of replies))
      (before.sides t) (after.sides t)
  pub is_written : Grows before.output after.output (rendered (shown_of_all messages replies))

-- ---- runs as far as they came

-- a front of an output is written
abbrev pub WritesFront : Option (List ℕ) → Option (List ℕ) → List ℕ → Type 0
WritesFront old new output = (written : List ℕ) → old ≡ Some written → (count : ℕ) × (new ≡ Some (written ++ take count output))

-- Messages were answered as far as it came. The first of them, `taken`, were taken, and the clock was read once for each command of
-- these. At each trustee the client's sent list grew by the first of their questions there. Of these messages the first, `answered`,
-- have all their replies, which are those that the entries of their questions have in the log that the client has seen, and of what
-- they show a front is written.
pub record IsBrokenRun (s : Setting) (messages : List Message) (before after : SessionView) : Type 0 where
  pub answered : List Message
  pub others : List Message
  pub untaken : List Message
  pub parts : messages ≡ (answered ++ others) ++ untaken
  pub readings : List ℕ
  pub is_read : Grows before.clock after.clock readings
  pub once : length readings ≡ length (commands_of (answered ++ others))
  pub replies : List (List ShardReply)
  pub each : HaveReplies (asked_for s answered readings) replies
  pub asked : (t : ℕ) → t < s.trustees
      → HasAskedSome Missing (requests_at t (all_of (asked_for s (answered ++ others) readings)))
      (replies_at t (all_of (asked_for s answered readings)) (all_of replies)) (before.sides t) (after.sides t)
  pub is_written : WritesFront before.output after.output (rendered (shown_of_all answered replies))

-- ---- how a session ends

-- where the source tells its bytes: these came, and the rest is still to come
abbrev pub CameSoFar : Option (List ℕ) → Option (List ℕ) → List ℕ → Type 0
CameSoFar before now text = (bytes : List ℕ) → before ≡ Some bytes → (rest : List ℕ) × (bytes ≡ text ++ rest) × (now ≡ Some rest)

-- where the source tells its bytes: these are all of them, and all came
abbrev pub CameWhole : Option (List ℕ) → Option (List ℕ) → List ℕ → Type 0
CameWhole before now text = (bytes : List ℕ) → before ≡ Some bytes → (bytes ≡ text) × (now ≡ Some [])

-- this text came of the input, and its first bytes, as many as are answered, read as these messages and a rest
pub record HasRead (s : Setting) (before after : SessionView) (text : List ℕ) (messages : List Message) (rest : List ℕ) : Type 0 where
  pub came : CameSoFar before.input after.input text
  pub reads : Reads (take s.limit text) messages rest

-- the messages up to the first `quit` were answered, where text, messages and rest end so
pub record HasAnswered (s : Setting) (before after : SessionView) (Ends : List ℕ → List Message → List ℕ → Type 0) : Type 0 where
  pub text : List ℕ
  pub messages : List Message
  pub rest : List ℕ
  pub has_read : HasRead s before after text messages rest
  pub ends : Ends text messages rest
  pub run : IsWholeRun s (until_quit messages) before after

-- the messages up to the first `quit` were answered as far as it came
pub record HasStopped (s : Setting) (before after : SessionView) : Type 0 where
  pub text : List ℕ
  pub messages : List Message
  pub rest : List ℕ
  pub has_read : HasRead s before after text messages rest
  pub run : IsBrokenRun s (until_quit messages) before after

-- the input ended within the limit, without a `quit`
pub record IsOver (s : Setting) (before after : SessionView) (text : List ℕ) (messages : List Message) : Type 0 where
  pub came : CameWhole before.input after.input text
  pub fits : length text ≤ s.limit
  pub no_quit : has_quit messages ≡ false

-- What a session has done that ended so. A failed read comes after all that came whole is answered and written.
abbrev pub HasRun : Setting → Ended → SessionView → SessionView → Type 0
HasRun s AtEnd before after = HasAnswered s before after (λ text messages rest. IsOver s before after text messages × (rest ≡ []))
HasRun s Inside before after = HasAnswered s before after (λ text messages rest. IsOver s before after text messages × (rest ≢ []))
HasRun s Quit before after = HasAnswered s before after (λ text messages rest. has_quit messages ≡ true)
HasRun s TooMuch before after = HasAnswered s before after (λ text messages rest. (has_quit messages ≡ false) × (s.limit < length text))
HasRun s ReadFault before after = HasAnswered s before after (λ text messages rest. (has_quit messages ≡ false) × (length text ≤ s.limit))
HasRun s WriteFault before after = HasStopped s before after
HasRun s NoMemory before after = HasStopped s before after

-- ---- one command after another

-- the sides at the last of some marks, or before the first
abbrev pub last_of : (ℕ → StoreView) → List (ℕ → StoreView) → ℕ → StoreView
last_of before [] = before
last_of before (mark ∷ marks) = last_of mark marks

-- Each command asked its questions when the sides stood as the command before had left them, and all were replied: the marks are the client's
-- sides at the end of each.
abbrev pub AreAskedInTurn : ℕ → List (List StoreQuestion) → List (List ShardReply) → (ℕ → StoreView) → List (ℕ → StoreView) → Type 0
AreAskedInTurn trustees [] [] before [] = Unit {0}
AreAskedInTurn trustees (qs ∷ questions) (rs ∷ replies) before (mark ∷ marks) =
    ((t : ℕ) → t < trustees → HasAskedAll Missing (requests_at t qs) (replies_at t qs rs) (before t) (mark t)) × AreAskedInTurn trustees questions replies mark marks
AreAskedInTurn trustees _ _ before _ = ⊥

-- so it is in a whole run
abbrev pub WholeInTurn : (s : Setting) → List (ℕ → StoreView) → (messages : List Message) (before after : SessionView) → IsWholeRun s messages before after → Type 0
WholeInTurn s marks messages before after run = AreAskedInTurn s.trustees (asked_for s messages run.readings) run.replies before.sides marks

-- and in one as far as it came, of which one command at most was taken and not answered
abbrev pub BrokenInTurn : (s : Setting) → List (ℕ → StoreView) → (messages : List Message) (before after : SessionView) → IsBrokenRun s messages before after → Type 0
BrokenInTurn s marks messages before after run =
    AreAskedInTurn s.trustees (asked_for s run.answered run.readings) run.replies before.sides marks × (length (commands_of run.others) ≤ 1)

-- so it is in the run of a session that ended so
abbrev pub IsInTurn : (s : Setting) → List (ℕ → StoreView) → (ended : Ended) (before after : SessionView) → HasRun s ended before after → Type 0
IsInTurn s marks AtEnd before after has = WholeInTurn s marks (until_quit has.messages) before after has.run
IsInTurn s marks Inside before after has = WholeInTurn s marks (until_quit has.messages) before after has.run
IsInTurn s marks Quit before after has = WholeInTurn s marks (until_quit has.messages) before after has.run
IsInTurn s marks TooMuch before after has = WholeInTurn s marks (until_quit has.messages) before after has.run
IsInTurn s marks ReadFault before after has = WholeInTurn s marks (until_quit has.messages) before after has.run
IsInTurn s marks WriteFault before after has = BrokenInTurn s marks (until_quit has.messages) before after has.run
IsInTurn s marks NoMemory before after has = BrokenInTurn s marks (until_quit has.messages) before after has.run
