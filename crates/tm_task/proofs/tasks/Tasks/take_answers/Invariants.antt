use Rattle.std.proofs.Common.{length}
use Rattle.tm_task.specs.Going.{HaveAnswered}
use Rattle.tm_task.specs.Ours.{StaysOne}
use Rattle.tm_task.proofs.tasks.Tasks.take_answers.Given as goal

-- what was done so far
abbrev pub invariant-answers : goal.invariant-answers
invariant-answers g l =
    HaveAnswered g.P.PairTable.theory g.S.Entrusted.kind g.T.Task.rules l.moved l.initial.self l.self l.initial.client.books l.client.books
    × StaysOne g.P.PairTable.theory.client_view l.initial.client.books l.client.books

abbrev pub decreases-answers : goal.decreases-answers
decreases-answers g l = length l.client.books.arrived.items
