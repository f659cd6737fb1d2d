-- What a run of the program does.
use Rattle.std.specs.Prelude.{◌≡◌, ℕ, ◌⊎◌, true, List, Option, String}
use Rattle.std.specs.declared.alloc.Global.{Global}
use Rattle.tm_base.specs.Causes.{Rose}
use Rattle.mc_next.specs.declared.ended.Ended.{Ended as SessionEnded}
use Rattle.mc_next.specs.declared.ended.Ended.TheVariants as ended
use Rattle.mc_next.specs.Runs.{Setting, SessionView}
use Rattle.mc_alone.specs.Outputs.{HasAnsweredAsOne}
use Rattle.mc_words.specs.declared.reading.Words.TheVariants as words
use Rattle.mc_words.specs.declared.run.Run.{Run}
use Rattle.mc_words.specs.Options.{texts}
use Rattle.mc_words.specs.RunWords.{IsRunInRange}
use Rattle.mc_words.specs.Saying.{Says}
use Rattle.mc_top.specs.declared.status.Status.{Status}
use Rattle.mc_top.specs.declared.status.Status.TheVariants.{Ended, BadWords, NoMemory, ReadFault, WriteFault, TooMuch, EndedInside}
use Rattle.mc_top.specs.Statuses.{number_of}

-- The words of the only command as yet, `run` in turns, which say so many trustees, items and bytes.
abbrev pub AreLawful : List (String Global) → Run → Type 0
AreLawful said run = Says (texts said) (words.Run run) × (run.turns ≡ true)

-- what the devices of a run tell: the bytes still to come, the readings of the clock, and the bytes written
pub record DeviceViews : Type 0 where
  pub input : Option (List ℕ)
  pub clock : Option (List ℕ)
  pub output : Option (List ℕ)

abbrev pub views : Option (List ℕ) → Option (List ℕ) → Option (List ℕ) → DeviceViews
views input clock output = record { input = input; clock = clock; output = output }

-- the same of a session, without its client's sides
abbrev pub devices_of : SessionView → DeviceViews
devices_of view = views view.input view.clock view.output

-- A session of these devices ended so, and has answered what the plain store of at most so many items for each class answers of at most so many bytes
-- of the input.
pub record HasAnswered (items max_bytes : ℕ) (ended : SessionEnded) (before after : DeviceViews) : Type 0 where
  pub s : Setting
  pub first : SessionView
  pub now : SessionView
  pub limit : s.limit ≡ max_bytes
  pub at_first : devices_of first ≡ before
  pub at_end : devices_of now ≡ after
  pub answered : HasAnsweredAsOne items s ended first now

-- what a run has done that ends with a status, of classes of at most so many items each, and of at most so many bytes of the input
abbrev pub Does : ℕ → ℕ → Status → DeviceViews → DeviceViews → Type 0
Does items max_bytes Ended before after = HasAnswered items max_bytes ended.AtEnd before after ⊎ HasAnswered items max_bytes ended.Quit before after
Does items max_bytes EndedInside before after = HasAnswered items max_bytes ended.Inside before after
Does items max_bytes TooMuch before after = HasAnswered items max_bytes ended.TooMuch before after
Does items max_bytes ReadFault before after = HasAnswered items max_bytes ended.ReadFault before after
Does items max_bytes WriteFault before after = HasAnswered items max_bytes ended.WriteFault before after
Does items max_bytes NoMemory before after = HasAnswered items max_bytes ended.NoMemory before after
Does items max_bytes BadWords before after = after ≡ before

-- What a run of the whole program has done that ends the process with this exit status, with numbers that words may say. A fault is told only where
-- the device's count of faults rose.
pub record Exits (number : ℕ) (before after : DeviceViews) (read_faults read_faults_new write_faults write_faults_new : ℕ) : Type 0 where
  pub status : Status
  pub is_exit : number ≡ number_of status
  pub run : Run
  pub in_range : IsRunInRange run
  pub does : Does run.items run.max_bytes status before after
  pub read_cause : status ≡ ReadFault → Rose read_faults read_faults_new
  pub write_cause : status ≡ WriteFault → Rose write_faults write_faults_new
