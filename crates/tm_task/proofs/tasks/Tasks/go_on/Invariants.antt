use Rattle.tm_task.specs.Going.{HaveGoneOn}
use Rattle.tm_task.specs.Ours.{StaysOne}
use Rattle.tm_task.proofs.tasks.Tasks.go_on.Given as goal

-- the tasks before this one had their turn
abbrev pub invariant-loop-number : goal.invariant-loop-number
invariant-loop-number g l =
    HaveGoneOn g.P.PairTable.theory g.S.Entrusted.kind g.T.Task.rules l.number l.started l.initial.self l.self l.initial.client.books l.client.books
    × StaysOne g.P.PairTable.theory.client_view l.initial.client.books l.client.books
