-- The limit of a value, written a second time as a number, and tails of blocks, worked by hand. The checker computes them.
use Rattle.std.proofs.Common.{◌≡◌, ℕ, true, List, [], ◌∷◌, pos, refl}
use Rattle.std.specs.Prelude.{codes}
use Rattle.mc_model.specs.declared.line.Header.{Header}
use Rattle.mc_model.specs.declared.message.How.TheVariants.{Set}
use Rattle.mc_model.specs.declared.message.Command.TheVariants.{Store}
use Rattle.mc_model.specs.declared.message.Fault.TheVariants.{BadChunk, TooLarge}
use Rattle.mc_model.specs.declared.message.Message.{Message}
use Rattle.mc_model.specs.declared.message.Message.TheVariants.{Command, Fault}
use Rattle.mc_model.specs.Stream.{stored}

-- a quiet set of a value of so many bytes
abbrev header : ℕ → Header
header size = record { how = Set; key = codes "a"; flags = 0; exptime = pos 0; size = size; quiet = true }

-- what it stores
abbrev set : List ℕ → Message
set value = Command (Store Set (codes "a") 0 (pos 0) value true)

-- a value as large as a value may be, and one that is larger by one, whatever its tail
largest : (value : List ℕ) → stored (header 1048576) value (codes "\r\n") ≡ set value
largest value = refl

larger : (value tail : List ℕ) → stored (header 1048577) value tail ≡ Fault (TooLarge true)
larger value tail = refl

-- a tail that is no line end alone
line_feed_alone : stored (header 3) (codes "abc") (codes "\n") ≡ Fault (BadChunk true)
line_feed_alone = refl

two_returns : stored (header 3) (codes "abc") (codes "\r\r\n") ≡ Fault (BadChunk true)
two_returns = refl
