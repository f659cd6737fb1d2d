-- What the plain store outputs for an input: one list of all items, which answers each command at its moment.
use Rattle.std.specs.Prelude.{◌≡◌, ◌≢◌, ℕ, ◌<◌, ◌≤◌, true, false, List, [], ◌++◌, length}
use Rattle.tm_base.specs.Visible.{Grows}
use Rattle.mc_model.specs.declared.message.Message.{Message}
use Rattle.mc_model.specs.declared.reply.ShardReply.{ShardReply}
use Rattle.mc_model.specs.Moments.{moments_of}
use Rattle.mc_model.specs.Plain.{Plain, new_store, Runs}
use Rattle.mc_model.specs.Quits.{has_quit, until_quit}
use Rattle.mc_model.specs.Rendering.{rendered}
use Rattle.mc_model.specs.Showing.{commands_of, shown_of_all}
use Rattle.mc_next.specs.declared.ended.Ended.{Ended}
use Rattle.mc_next.specs.declared.ended.Ended.TheVariants.{AtEnd, Quit, Inside, ReadFault, WriteFault, TooMuch, NoMemory}
use Rattle.mc_next.specs.Runs.{Setting, SessionView, WritesFront, HasRead, IsOver}

-- The plain store, of at most so many items for each class, ran the commands among the messages, each at the moment of its reading, and this
-- output shows all messages.
pub record Outputs (bound : ℕ) (messages : List Message) (readings : List ℕ) (output : List ℕ) : Type 0 where
  pub replies : List (List ShardReply)
  pub store : Plain
  pub runs : Runs (new_store bound) (commands_of messages) (moments_of readings) replies store
  pub shows : output ≡ rendered (shown_of_all messages replies)

-- The clock was read once for each command, and the output of all messages is written.
pub record AreAnswered (bound : ℕ) (messages : List Message) (before after : SessionView) : Type 0 where
  pub readings : List ℕ
  pub output : List ℕ
  pub is_read : Grows before.clock after.clock readings
  pub outputs : Outputs bound messages readings output
  pub is_written : Grows before.output after.output output

-- Of the output of some of the messages, from the first on, a front is written. The clock may have been read once more.
pub record AreBegun (bound : ℕ) (messages : List Message) (before after : SessionView) : Type 0 where
  pub seen : List Message
  pub unseen : List Message
  pub parts : messages ≡ seen ++ unseen
  pub readings : List ℕ
  pub last_reading : List ℕ
  pub once : length last_reading ≤ 1
  pub output : List ℕ
  pub is_read : Grows before.clock after.clock (readings ++ last_reading)
  pub outputs : Outputs bound seen readings output
  pub is_written : WritesFront before.output after.output output

-- the messages up to the first `quit` were answered, where text, messages and rest end so
pub record IsAnswered (bound : ℕ) (s : Setting) (before after : SessionView) (Ends : List ℕ → List Message → List ℕ → Type 0) : Type 0 where
  pub text : List ℕ
  pub messages : List Message
  pub rest : List ℕ
  pub has_read : HasRead s before after text messages rest
  pub ends : Ends text messages rest
  pub answered : AreAnswered bound (until_quit messages) before after

-- the messages up to the first `quit` were answered as far as it came
pub record IsBegun (bound : ℕ) (s : Setting) (before after : SessionView) : Type 0 where
  pub text : List ℕ
  pub messages : List Message
  pub rest : List ℕ
  pub has_read : HasRead s before after text messages rest
  pub begun : AreBegun bound (until_quit messages) before after

-- What the plain store has answered of an input that ended so: as a session's run (HasRun), but with the plain store's output in place of what
-- trustees were asked and replied.
abbrev pub HasAnsweredAsOne : ℕ → Setting → Ended → SessionView → SessionView → Type 0
HasAnsweredAsOne bound s AtEnd before after = IsAnswered bound s before after (λ text messages rest. IsOver s before after text messages × (rest ≡ []))
HasAnsweredAsOne bound s Inside before after = IsAnswered bound s before after (λ text messages rest. IsOver s before after text messages × (rest ≢ []))
HasAnsweredAsOne bound s Quit before after = IsAnswered bound s before after (λ text messages rest. has_quit messages ≡ true)
HasAnsweredAsOne bound s TooMuch before after = IsAnswered bound s before after (λ text messages rest. (has_quit messages ≡ false) × (s.limit < length text))
HasAnsweredAsOne bound s ReadFault before after = IsAnswered bound s before after (λ text messages rest. (has_quit messages ≡ false) × (length text ≤ s.limit))
HasAnsweredAsOne bound s WriteFault before after = IsBegun bound s before after
HasAnsweredAsOne bound s NoMemory before after = IsBegun bound s before after
