use Rattle.std.proofs.Common.{◌∷◌, []}
use Rattle.tm_pair.specs.declared.moves.Move.TheVariants.{Open}
use Rattle.tm_pair.proofs.moves.opened.Given as goal

abbrev pub ghosts-pick_open : goal.ghosts-pick_open
ghosts-pick_open g a = record { items = Open a._places ∷ [] }
