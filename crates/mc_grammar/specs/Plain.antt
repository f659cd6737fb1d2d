-- What the plain program says of a front.
use Rattle.std.specs.Prelude.{◌≢◌, ℕ, List, [], ◌++◌}
use Rattle.mc_model.specs.declared.line.Saying.{Saying}
use Rattle.mc_model.specs.declared.message.Message.{Message}
use Rattle.mc_model.specs.Stream.{Completes}

-- these bytes do not complete what a line says, and some more do
abbrev pub IsAwaited : Saying → List ℕ → Type 0
IsAwaited saying rest = (more : List ℕ) × (m : Message) × (more ≢ []) × Completes saying (rest ++ more) m
