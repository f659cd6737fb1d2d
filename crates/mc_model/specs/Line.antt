-- Lines, and what one line says.
use Rattle.std.specs.Prelude.{◌≡◌, ◌≢◌, ℕ, ◌-◌, ◌⊎◌, not, List, [], ◌∷◌, length, take, nat_lt, ◌==◌, if◌then◌else◌}
use Rattle.std.specs.List.{filter, slice_split}
use Rattle.std.specs.Str.Lines.{strip_carriage_return}
use Rattle.mc_item.specs.declared.limits.TheConstants.{LONGEST_LINE}
use Rattle.mc_model.specs.declared.line.Saying.{Saying}
use Rattle.mc_model.specs.declared.message.Fault.TheVariants.{LineTooLong}
use Rattle.mc_model.specs.Commands.{fails, tokens_say}

-- bytes that are no line feed, and then a line feed
abbrev pub IsLine : List ℕ → Type 0
IsLine [] = ⊥
IsLine (b ∷ bytes) = ((b ≡ 10) × (bytes ≡ [])) ⊎ ((b ≢ 10) × IsLine bytes)

-- no byte is a line feed
abbrev pub HasNoEnd : List ℕ → Type 0
HasNoEnd [] = Unit {0}
HasNoEnd (b ∷ bytes) = (b ≢ 10) × HasNoEnd bytes

-- the most bytes of a line, with its line feed
abbrev pub longest_line : ℕ
longest_line = LONGEST_LINE

-- the bytes before the line feed, without one carriage return directly before it
abbrev pub body : List ℕ → List ℕ
body line = strip_carriage_return (take (length line - 1) line)

-- the longest runs of bytes that are no space
abbrev pub tokens : List ℕ → List (List ℕ)
tokens bytes = filter (λ t. not (length t == 0)) (slice_split (λ b. b == 32) bytes)

-- what a line says
unfoldable pub says : List ℕ → Saying
says line = if nat_lt longest_line (length line) then fails LineTooLong else tokens_say (tokens (body line))
