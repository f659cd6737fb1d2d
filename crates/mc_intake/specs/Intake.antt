-- What an intake has of a source.
use Rattle.std.specs.Prelude.{◌≡◌, ℕ, ◌+◌, ◌-◌, ◌<◌, ◌≤◌, List, [], ◌++◌, length, take, drop, Option}
use Rattle.tm_base.specs.Visible.{Gives, IsEmptyWhereTold}
use Rattle.mc_model.specs.declared.message.Message.{Message}
use Rattle.mc_grammar.specs.declared.reader.Next.{Next}
use Rattle.mc_grammar.specs.declared.reader.Next.TheVariants as next
use Rattle.mc_grammar.specs.Reading.{IsRead}
use Rattle.mc_grammar.specs.Pieces.{kept}
use Rattle.mc_grammar.specs.Progress.{IsUnfinished}
use Rattle.mc_intake.specs.declared.intake.TheConstants.{BUFFER}
use Rattle.mc_intake.specs.declared.intake.Came.{Came}
use Rattle.mc_intake.specs.declared.intake.Came.TheVariants as came
use Rattle.mc_intake.specs.declared.intake.Intake.{Intake}

-- the bytes that were read and not fed
abbrev pub unfed : Intake → List ℕ
unfed i = take (i.to - i.from) (drop i.from i.buffer.items)

-- This text was read of a source of which the first bytes, so many, are taken: those that were fed are the spellings of these messages and
-- then what the reader has, and the others are still to be fed.
pub record IsIntake (limit : ℕ) (text : List ℕ) (messages : List Message) (i : Intake) : Type 0 where
  pub room : length i.buffer.items ≡ BUFFER
  pub from_to : i.from ≤ i.to
  pub to_end : i.to ≤ BUFFER
  pub fed : List ℕ
  pub parts : fed ++ unfed i ≡ take limit text
  pub is_read : IsRead fed messages i.reader
  pub unfinished : IsUnfinished i.reader
  pub left : length (take limit text) + i.left ≡ limit

-- the next message was taken; with none, all is fed
pub record Takes (limit : ℕ) (text : List ℕ) (messages : List Message) (n : Next) (i : Intake) : Type 0 where
  pub is : IsIntake limit text (kept messages n) i
  pub more : n ≡ next.More → unfed i ≡ []

-- What a read says of the bytes that came, which are now in hand as far as they are within the limit: none, and then the source that tells
-- its bytes has none; some above the limit; or all within it.
abbrev pub Says : Came → ℕ → List ℕ → List ℕ → Option (List ℕ) → Type 0
Says came.End limit text bytes left = (bytes ≡ []) × IsEmptyWhereTold left
Says came.TooMuch limit text bytes left = limit < length (text ++ bytes)
Says came.Some limit text bytes left = (1 ≤ length bytes) × (length bytes ≤ BUFFER) × (length (text ++ bytes) ≤ limit)

-- a read brought bytes behind those of before
pub record HasRead (limit : ℕ) (text : List ℕ) (messages : List Message) (said : Came) (left left_new : Option (List ℕ)) (i : Intake) : Type 0 where
  pub bytes : List ℕ
  pub gives : Gives left left_new (length bytes) bytes
  pub is : IsIntake limit (text ++ bytes) messages i
  pub says : Says said limit text bytes left
