use Rattle.std.proofs.Common.{◌∷◌, [], ◌++◌}
use Rattle.tm_task.specs.declared.deed.Deed.TheVariants.{Started}
use Rattle.tm_task.proofs.deed.started.Given as goal

abbrev pub ghosts-pick_started : goal.ghosts-pick_started
ghosts-pick_started g a = record { items = a._told.now.items ++ Started a._number a._next.now ∷ [] }
