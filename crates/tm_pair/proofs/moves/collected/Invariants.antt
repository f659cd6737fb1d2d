use Rattle.std.proofs.Common.{◌∷◌, [], ◌++◌}
use Rattle.tm_pair.specs.Moves.{answers_found}
use Rattle.tm_pair.specs.declared.moves.Move.TheVariants.{Collect}
use Rattle.tm_pair.proofs.moves.collected.Given as goal

abbrev pub ghosts-pick_collect : goal.ghosts-pick_collect
ghosts-pick_collect g a = record { items = a._past.now.items ++ Collect a._place (answers_found a._found.now) ∷ [] }
