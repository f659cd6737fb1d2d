use Rattle.std.proofs.Common.{⊎_elim, inl, inr, arith}
use Rattle.std.proofs.lemmas.Bool.{cases_lt}
use Rattle.tm_toggle.proofs.laws.words_stand_apart.Goals as goal

pub returns-clause-requests : goal.returns-clause-requests
returns-clause-requests c = λ a b lt. omega arith

pub returns-clause-responses : goal.returns-clause-responses
returns-clause-responses c = λ a b lt. omega arith

pub returns-clause-both : goal.returns-clause-both
returns-clause-both c = λ a b. ⊎_elim (λ lt. inr (omega arith)) (λ le. inl (omega arith)) (cases_lt b a)

pub returns-clause-first : goal.returns-clause-first
returns-clause-first c = λ a. omega arith

pub returns-clause-last : goal.returns-clause-last
returns-clause-last c = λ a n lt. omega arith
