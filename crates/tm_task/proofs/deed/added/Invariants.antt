use Rattle.std.proofs.Common.{◌∷◌, [], ◌++◌}
use Rattle.tm_task.specs.declared.deed.Deed.TheVariants.{Added}
use Rattle.tm_task.proofs.deed.added.Given as goal

abbrev pub ghosts-pick_added : goal.ghosts-pick_added
ghosts-pick_added g a = record { items = a._told.now.items ++ Added a._task.now ∷ [] }
