use Rattle.std.proofs.Common.{◌∷◌, [], ◌++◌}
use Rattle.tm_pair.specs.Moves.{answer_of}
use Rattle.tm_pair.proofs.moves.answered.Given as goal

abbrev pub ghosts-pick_answer : goal.ghosts-pick_answer
ghosts-pick_answer g a = record { items = a._past.now.items ++ answer_of a._place g.E.Since.resumes a._answers.now ∷ [] }
