use Rattle.std.proofs.Common.{◌∷◌, [], ◌++◌}
use Rattle.tm_base.proofs.mem_clock.longer.Given as goal

abbrev pub ghosts-pick : goal.ghosts-pick
ghosts-pick a = record { items = a._old.now.items ++ a._reading ∷ [] }
