use Rattle.tm_trustee.proofs.places.answer_batch.Given as goal

-- what was resumed since the last answer
abbrev pub ghosts-answer_behind : goal.ghosts-answer_behind
ghosts-answer_behind g a = record { resumes = a._since.now.items }
