use Rattle.tm_pair.proofs.opened.told.Given as goal

abbrev pub ghosts-pick : goal.ghosts-pick
ghosts-pick g a = record { items = a._first.now.items }
