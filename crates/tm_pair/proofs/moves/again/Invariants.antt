use Rattle.tm_pair.proofs.moves.again.Given as goal

abbrev pub ghosts-pick_past : goal.ghosts-pick_past
ghosts-pick_past g a = record { items = a._past.now.items }
