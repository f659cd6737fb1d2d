-- What a call does to one cell of the machine.
use Rattle.std.specs.Prelude.{◌≡◌, ℕ, false, List, [], length}
use Rattle.tm_core.specs.declared.cell.Content.{Content}
use Rattle.tm_core.specs.declared.cell.Content.TheVariants.{Empty, Asked, Taken, Answered}
use Rattle.tm_core.specs.declared.cell.Cell.{Cell}

-- the batch in hand
abbrev pub hand_of : Content → List ℕ
hand_of (Taken b) = b.items
hand_of Empty = []
hand_of (Asked b) = []
hand_of (Answered a) = []

-- a batch of n requests is in hand
abbrev pub HasInHand : Content → ℕ → Type 0
HasInHand (Taken b) n = n ≡ length b.items
HasInHand Empty n = ⊥
HasInHand (Asked b) n = ⊥
HasInHand (Answered a) n = ⊥

-- a batch that was published is taken
abbrev pub seen : Content → Content
seen (Asked b) = Taken b
seen Empty = Empty
seen (Taken b) = Taken b
seen (Answered a) = Answered a

-- answers that stand there are taken out
abbrev pub taken_out : Content → Content
taken_out (Answered a) = Empty
taken_out Empty = Empty
taken_out (Asked b) = Asked b
taken_out (Taken b) = Taken b

-- a cell at first
pub record IsNewCell (cell : Cell) : Type 0 where
  pub request_word : cell.request_word ≡ false
  pub response_word : cell.response_word ≡ false
  pub content : cell.content ≡ Empty
  pub sent : cell.sent.items ≡ []
  pub ran : cell.ran.items ≡ []

-- a cell keeps all but what stands in its slot
pub record KeepsRest (old new : Cell) : Type 0 where
  pub request_word : new.request_word ≡ old.request_word
  pub response_word : new.response_word ≡ old.response_word
  pub sent : new.sent.items ≡ old.sent.items
  pub ran : new.ran.items ≡ old.ran.items
