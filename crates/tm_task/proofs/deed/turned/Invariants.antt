use Rattle.std.proofs.Common.{◌∷◌, [], ◌++◌}
use Rattle.tm_task.specs.declared.deed.Deed.TheVariants.{Turned}
use Rattle.tm_task.proofs.deed.turned.Given as goal

abbrev pub ghosts-pick_turned : goal.ghosts-pick_turned
ghosts-pick_turned g a = record { items = a._told.now.items ++ Turned a._trustee a._turn ∷ [] }
