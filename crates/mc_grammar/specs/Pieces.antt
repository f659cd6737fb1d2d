-- A text that comes in pieces.
use Rattle.std.specs.Prelude.{◌≡◌, ◌↔◌, ℕ, Bool, true, List, [], ◌∷◌, ◌++◌}
use Rattle.mc_model.specs.declared.message.Message.{Message}
use Rattle.mc_model.specs.declared.message.Message.TheVariants as message
use Rattle.mc_model.specs.Stream.{Reads}
use Rattle.mc_grammar.specs.declared.progress.Progress.{Progress}
use Rattle.mc_grammar.specs.declared.reader.Next.{Next}
use Rattle.mc_grammar.specs.declared.reader.Next.TheVariants as next
use Rattle.mc_grammar.specs.Reading.{IsRead}

-- the text reads as these messages and a rest, and the answer is whether the rest is empty
pub record IsReading (text : List ℕ) (messages : List Message) (is_whole : Bool) : Type 0 where
  pub rest : List ℕ
  pub reads : Reads text messages rest
  pub whole : (is_whole ≡ true) ↔ (rest ≡ [])

-- messages, and what comes next
abbrev pub kept : List Message → Next → List Message
kept messages (next.Command c) = messages ++ message.Command c ∷ []
kept messages (next.Fault fault) = messages ++ message.Fault fault ∷ []
kept messages next.More = messages

-- whatever was read as the first messages, so are these bytes more as the others
unfoldable pub ReadsInto : Progress → List Message → List ℕ → Progress → List Message → Type 0
ReadsInto old messages taken new others = (bytes : List ℕ) → IsRead bytes messages old → IsRead (bytes ++ taken) others new
