-- What the cells of the machine show of the slots.
use Rattle.std.specs.Prelude.{◌≡◌, ◌↔◌, ℕ, ◌<◌, Bool, IsTrue, List, length, slice_index_or}
use Rattle.tm_model.specs.Slots.{Empty, Asked, Taken, Answered, slot_of, first_core}
use Rattle.tm_core.specs.declared.cell.Content.{Content}
use Rattle.tm_core.specs.declared.cell.Content.TheVariants.{Empty as Free, Asked as Out, Taken as InHand, Answered as Back}
use Rattle.tm_core.specs.declared.cell.Cell.{Cell}
use Rattle.tm_core.specs.declared.step.Step.{Step}
use Rattle.tm_core.specs.Cells.{IsNewCell}
use Rattle.tm_core.specs.Numbers.{Logged, NumberBox, NumberSlot, NumberCore, ran}
use Rattle.tm_core.specs.Steps.{IsAllowed, AreAllowed, after_step, core_after}

-- what stands in a cell shows a box of room 0
abbrev pub ShowsBox : Content → NumberBox → Type 0
ShowsBox Free Empty = Unit {0}
ShowsBox (Out b) (Asked requests room) = (b.items ≡ requests) × (room ≡ 0)
ShowsBox (InHand b) (Taken requests room) = (b.items ≡ requests) × (room ≡ 0)
ShowsBox (Back a) (Answered answers upto room) = a.items ≡ answers
ShowsBox _ _ = ⊥

-- a cell shows the slot of place c behind a log
pub record ShowsSlot (log : List Logged) (c : ℕ) (cell : Cell) (slot : NumberSlot) : Type 0 where
  pub request_word : cell.request_word ≡ slot.request_word
  pub response_word : cell.response_word ≡ slot.response_word
  pub box : ShowsBox cell.content slot.box
  pub sent : cell.sent.items ≡ slot.sent
  pub ran : cell.ran.items ≡ ran c log

-- cells show the slots of a core
pub record ShowsCore (cells : List Cell) (core : NumberCore) : Type 0 where
  pub places : length core.slots ≡ length cells
  pub slots : (c : ℕ) (cell : Cell) → c < length cells → cell ≡ slice_index_or cells c cell → ShowsSlot core.log c cell (slot_of core c)

-- cells show so many places after some steps, each of which was allowed
pub record AreAfter (cells : List Cell) (places : ℕ) (past : List Step) : Type 0 where
  pub shown : ShowsCore cells (core_after places past)
  pub allowed : AreAllowed (first_core places) past

-- cells of places that nothing came to
unfoldable pub AreNew : List Cell → Type 0
AreNew cells = (c : ℕ) (cell : Cell) → c < length cells → cell ≡ slice_index_or cells c cell → IsNewCell cell

-- an answer tells whether a step is allowed, of whatever core the cells show
unfoldable pub Tells : List Cell → Step → Bool → Type 0
Tells cells step answer = (core : NumberCore) → ShowsCore cells core → IsTrue answer ↔ IsAllowed core step

-- the cells go by a step that is allowed, and then show the core after it
unfoldable pub CellsGo : List Cell → Step → List Cell → Type 0
CellsGo old step new = (core : NumberCore) → IsAllowed core step → ShowsCore old core → ShowsCore new (after_step step core)

-- the cells show what they showed
unfoldable pub CellsStay : List Cell → List Cell → Type 0
CellsStay old new = (core : NumberCore) → ShowsCore old core → ShowsCore new core
