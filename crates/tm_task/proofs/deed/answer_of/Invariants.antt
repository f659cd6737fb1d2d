use Rattle.std.proofs.Common.{◌∷◌, []}
use Rattle.tm_task.proofs.deed.answer_of.Given as goal

abbrev pub ghosts-pick_answer : goal.ghosts-pick_answer
ghosts-pick_answer g a = record { items = a._got.now ∷ [] }
