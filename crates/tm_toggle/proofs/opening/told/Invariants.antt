use Rattle.tm_toggle.proofs.opening.told.Given as goal

abbrev pub ghosts-pick : goal.ghosts-pick
ghosts-pick g a = record { items = a._first.now.items }
