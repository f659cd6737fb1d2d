-- The bytes that a key keeps, in whichever form.
use Rattle.std.specs.Prelude.{ℕ, List}
use Rattle.mc_item.specs.declared.key.Form.{Form}
use Rattle.mc_item.specs.declared.key.Form.TheVariants.{Short, Middle, Long}

abbrev pub bytes_of : Form → List ℕ
bytes_of (Short bytes) = bytes
bytes_of (Middle bytes) = bytes.value
bytes_of (Long bytes) = bytes.value
