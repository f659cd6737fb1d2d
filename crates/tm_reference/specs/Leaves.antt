-- What leaves with the answers to a batch, or why nothing does.
use Rattle.std.specs.Prelude.{◌≡◌, ℕ, List}
use Rattle.tm_seq.specs.Kind.{Kind}
use Rattle.tm_batch.specs.declared.message.Answer.{Answer}
use Rattle.tm_model.specs.declared.entry.Entry.TheVariants.{Sent}
use Rattle.tm_model.specs.State.{State}
use Rattle.tm_model.specs.Legal.{MayCome}
use Rattle.tm_model.specs.Batches.{leaving}
use Rattle.tm_reference.specs.declared.place.Leaving.{Leaving}
use Rattle.tm_reference.specs.declared.refused.NotSent.{NotSent}
use Rattle.tm_reference.specs.declared.refused.NotSent.TheVariants.{NotLegal, NoMemory}

module _ {V O R T : Type 0} where
  -- these are the gifts and completions that leave for place c, whatever answers they leave with
  abbrev pub AreLeaving : State V O R T → ℕ → ℕ → Leaving V O R T → Type 0
  AreLeaving s c room l =
      (front : ℕ) (answers : List (Answer V O R T))
      → (l.gifts.items ≡ (leaving c room front answers s).gifts.items)
      × (l.completions.items ≡ (leaving c room front answers s).completions.items)

  -- nothing leaves: that may not come, or there was no memory
  abbrev pub IsNotSent : Kind V O R T → State V O R T → ℕ → ℕ → NotSent → Type 0
  IsNotSent kind s c room NotLegal = ¬ MayCome kind s (Sent c room)
  IsNotSent kind s c room NoMemory = Unit {0}
