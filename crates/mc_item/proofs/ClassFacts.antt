-- What follows from the rule of classes.
use Rattle.std.proofs.Common.{ℕ, ◌<◌, List, arith}
use Rattle.mc_item.specs.Classes.{class_of}

-- there are 64 classes
pub class_of-below : (bytes : List ℕ) → class_of bytes < 64
unfolding class_of
class_of-below bytes = omega arith
