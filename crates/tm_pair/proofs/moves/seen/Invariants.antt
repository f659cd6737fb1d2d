use Rattle.std.proofs.Common.{◌∷◌, [], ◌++◌}
use Rattle.tm_pair.specs.declared.moves.Move.TheVariants.{See}
use Rattle.tm_pair.proofs.moves.seen.Given as goal

abbrev pub ghosts-pick_see : goal.ghosts-pick_see
ghosts-pick_see g a = record { items = a._past.now.items ++ See a._place a._found.now ∷ [] }
