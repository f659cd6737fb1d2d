use Rattle.std.proofs.Common.{◌∷◌, [], ◌++◌}
use Rattle.tm_core.proofs.cells.records.Given as goal

abbrev pub ghosts-pick : goal.ghosts-pick
ghosts-pick a = record { items = a._past.now.items ++ a._step.now ∷ [] }
