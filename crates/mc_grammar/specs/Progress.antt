-- What of a message has come, by what is still to come.
use Rattle.std.specs.Prelude.{◌≡◌, ◌≢◌, ℕ, ◌+◌, ◌<◌, ◌≤◌, List, [], ◌∷◌, ◌++◌, length, take}
use Rattle.mc_item.specs.declared.limits.TheConstants.{LARGEST_VALUE, LONGEST_LINE}
use Rattle.mc_model.specs.declared.message.Fault.{Fault}
use Rattle.mc_model.specs.declared.message.Fault.TheVariants.{Unknown, BadLine, BadDelta, LineTooLong, BadChunk, TooLarge}
use Rattle.mc_model.specs.declared.message.Message.{Message}
use Rattle.mc_model.specs.declared.message.Message.TheVariants as message
use Rattle.mc_model.specs.Line.{IsLine, HasNoEnd}
use Rattle.mc_model.specs.Stream.{Spells, IsBlock, stored}
use Rattle.mc_grammar.specs.declared.progress.Progress.{Progress}
use Rattle.mc_grammar.specs.declared.progress.Progress.TheVariants.{Line, Block, Returned, Pass, Ready}

-- with these bytes still to come, the present message is m
abbrev pub Finishes : Progress → List ℕ → Message → Type 0
Finishes (Line front) more m = Spells (front ++ more) m
Finishes (Block h filling) more m =
    (block : List ℕ) × (tail : List ℕ) × IsBlock filling.1 more block tail × (m ≡ stored h (filling.0 ++ block) tail)
Finishes (Returned h value) more m = IsLine (13 ∷ more) × (m ≡ stored h value (13 ∷ more))
Finishes (Pass fault left) more m =
    (block : List ℕ) × (tail : List ℕ) × IsBlock left more block tail × (m ≡ message.Fault fault)
Finishes (Ready whole) more m = (more ≡ []) × (m ≡ whole)

-- a fault whose line or block is passed over
abbrev pub IsPassed : Fault → Type 0
IsPassed LineTooLong = Unit {0}
IsPassed (BadChunk quiet) = Unit {0}
IsPassed (TooLarge quiet) = Unit {0}
IsPassed Unknown = ⊥
IsPassed BadLine = ⊥
IsPassed BadDelta = ⊥

-- what a reader keeps true of itself
abbrev pub IsSound : Progress → Type 0
IsSound (Line front) = HasNoEnd front × (length front < LONGEST_LINE)
IsSound (Block h filling) = (h.size ≤ LARGEST_VALUE) × (length filling.0 + filling.1 ≡ h.size)
IsSound (Returned h value) = (h.size ≤ LARGEST_VALUE) × (length value ≡ h.size)
IsSound (Pass fault left) = IsPassed fault
IsSound (Ready whole) = Unit {0}

-- what is kept of a message that is not whole, and the room for the rest of its value, are within the limits of a line and of a value
abbrev pub IsBounded : Progress → Type 0
IsBounded (Line front) = length front < LONGEST_LINE
IsBounded (Block h filling) = length filling.0 + filling.1 ≤ LARGEST_VALUE
IsBounded (Returned h value) = length value ≤ LARGEST_VALUE
IsBounded (Pass fault left) = Unit {0}
IsBounded (Ready whole) = Unit {0}

-- the bytes taken lead from one to the other: what completes the second completes the first after them, as the same message
unfoldable pub Goes : Progress → List ℕ → Progress → Type 0
Goes old taken new =
    (more : List ℕ) (m : Message) → (Finishes old (taken ++ more) m → Finishes new more m) × (Finishes new more m → Finishes old (taken ++ more) m)

-- nothing has come
abbrev pub Start : Progress
Start = Line []

-- the message is whole
abbrev pub IsReady : Progress → Type 0
IsReady (Ready whole) = Unit {0}
IsReady (Line front) = ⊥
IsReady (Block h filling) = ⊥
IsReady (Returned h value) = ⊥
IsReady (Pass fault left) = ⊥

-- some bytes, and not none, complete the message
unfoldable pub IsUnfinished : Progress → Type 0
IsUnfinished p = (more : List ℕ) × (m : Message) × (more ≢ []) × Finishes p more m

-- of these bytes the first n are taken: all of them, or those up to the end of the present message
pub record Takes (old : Progress) (from : List ℕ) (new : Progress) (n : ℕ) : Type 0 where
  pub within : n ≤ length from
  pub goes : Goes old (take n from) new
  pub sound : IsSound new
  pub through : n < length from → IsReady new
