use Rattle.std.proofs.Common.{◌++◌, map}
use Rattle.tm_task.specs.declared.deed.Deed.TheVariants.{Resumed}
use Rattle.tm_task.proofs.deed.resumed.Given as goal

abbrev pub ghosts-pick_resumed : goal.ghosts-pick_resumed
ghosts-pick_resumed g a = record { items = a._told.now.items ++ map (λ got. Resumed a._number got a._next.now) a._answer.now.items }
