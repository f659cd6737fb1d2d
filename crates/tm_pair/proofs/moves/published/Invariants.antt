use Rattle.std.proofs.Common.{◌∷◌, [], ◌++◌}
use Rattle.tm_pair.specs.declared.moves.Move.TheVariants.{Publish}
use Rattle.tm_pair.proofs.moves.published.Given as goal

abbrev pub ghosts-pick_publish : goal.ghosts-pick_publish
ghosts-pick_publish g a = record { items = a._past.now.items ++ Publish a._place a._batch.now ∷ [] }
