use Rattle.std.proofs.Common.{◌∷◌, [], ◌++◌}
use Rattle.tm_task.specs.declared.deed.Deed.TheVariants.{Asked}
use Rattle.tm_task.proofs.deed.asked.Given as goal

abbrev pub ghosts-pick_asked : goal.ghosts-pick_asked
ghosts-pick_asked g a = record { items = a._told.now.items ++ Asked a._number a._trust a._op.now ∷ [] }
