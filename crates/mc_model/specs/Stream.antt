-- The reading of a stream, on whole texts.
use Rattle.std.specs.Prelude.{◌≡◌, ◌≢◌, ℕ, List, [], ◌∷◌, ◌++◌, length, nat_lt, if◌then◌else◌}
use Rattle.std.specs.Str.{bytes_eq}
use Rattle.mc_item.specs.declared.limits.TheConstants.{LARGEST_VALUE}
use Rattle.mc_model.specs.declared.line.Header.{Header}
use Rattle.mc_model.specs.declared.line.Saying.{Saying}
use Rattle.mc_model.specs.declared.line.Saying.TheVariants.{Alone, Awaits}
use Rattle.mc_model.specs.declared.message.Command.TheVariants.{Store}
use Rattle.mc_model.specs.declared.message.Fault.TheVariants.{BadChunk, TooLarge}
use Rattle.mc_model.specs.declared.message.Message.{Message}
use Rattle.mc_model.specs.declared.message.Message.TheVariants as message
use Rattle.mc_model.specs.Rendering.{crlf}
use Rattle.mc_model.specs.Line.{IsLine, says}

-- the message of a storage line, its block, and the tail after the block: too large whatever the tail, else a store where the tail is a line end alone
abbrev pub stored : Header → List ℕ → List ℕ → Message
stored h block tail =
    if nat_lt LARGEST_VALUE h.size then message.Fault (TooLarge h.quiet)
    else if bytes_eq tail crlf then message.Command (Store h.how h.key h.flags h.exptime block h.quiet)
    else message.Fault (BadChunk h.quiet)

-- the bytes are a block of so many bytes, and then its tail: those through the first line feed
pub record IsBlock (size : ℕ) (bytes block tail : List ℕ) : Type 0 where
  pub parts : bytes ≡ block ++ tail
  pub whole : length block ≡ size
  pub line : IsLine tail

-- what stands after a line that says this makes the message m
abbrev pub Completes : Saying → List ℕ → Message → Type 0
Completes (Alone message) rest m = (rest ≡ []) × (m ≡ message)
Completes (Awaits h) rest m = (block : List ℕ) × (tail : List ℕ) × IsBlock h.size rest block tail × (m ≡ stored h block tail)

-- the bytes are the message m, whole: a line, and what it asks for
pub record Spells (bytes : List ℕ) (m : Message) : Type 0 where
  pub line : List ℕ
  pub rest : List ℕ
  pub parts : bytes ≡ line ++ rest
  pub is_line : IsLine line
  pub completes : Completes (says line) rest m

-- the spellings of the messages, joined
abbrev pub Spelled : List ℕ → List Message → Type 0
Spelled bytes [] = bytes ≡ []
Spelled bytes (m ∷ messages) =
    (first : List ℕ) × (others : List ℕ) × (bytes ≡ first ++ others) × Spells first m × Spelled others messages

-- empty, or a proper prefix of a spelling
abbrev pub IsPartial : List ℕ → Type 0
IsPartial rest = (more : List ℕ) × (m : Message) × (more ≢ []) × Spells (rest ++ more) m

-- the text reads as these messages and this rest
pub record Reads (bytes : List ℕ) (messages : List Message) (rest : List ℕ) : Type 0 where
  pub front : List ℕ
  pub parts : bytes ≡ front ++ rest
  pub spelled : Spelled front messages
  pub partial : IsPartial rest

-- ---- laws

-- where two texts begin with spellings and are the same, the spellings are the same and so are their messages: no spelling begins another, and none spells two messages
abbrev pub OneSpelling : Type 0
OneSpelling =
    (first second u v : List ℕ) (m n : Message) → Spells first m → Spells second n → first ++ u ≡ second ++ v →
    (first ≡ second) × (m ≡ n)

-- no text has two readings
abbrev pub OneReading : Type 0
OneReading =
    (bytes : List ℕ) (messages others : List Message) (rest end : List ℕ) → Reads bytes messages rest → Reads bytes others end →
    (messages ≡ others) × (rest ≡ end)

-- each text has a reading
abbrev pub EachTextReads : Type 0
EachTextReads = (bytes : List ℕ) → (messages : List Message) × (rest : List ℕ) × Reads bytes messages rest

-- where a text reads as some messages, each longer text that begins with it reads as these and then more
abbrev pub ReadsExtend : Type 0
ReadsExtend =
    (bytes more : List ℕ) (messages : List Message) (rest : List ℕ) → Reads bytes messages rest →
    (others : List Message) × (end : List ℕ) × Reads (bytes ++ more) (messages ++ others) end
