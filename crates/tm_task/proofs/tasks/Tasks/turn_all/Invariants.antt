use Rattle.tm_task.specs.Going.{HaveMadeTurns}
use Rattle.tm_task.specs.Ours.{KeepsTables}
use Rattle.tm_task.specs.Progressing.{busy_below}
use Rattle.tm_task.proofs.tasks.Tasks.turn_all.Given as goal

-- the client made its turns at the trustees before this one
abbrev pub invariant-loop-trustee : goal.invariant-loop-trustee
invariant-loop-trustee g l =
    HaveMadeTurns g.P.PairTable.theory g.S.Entrusted.kind g.T.Task.rules (busy_below l.initial.client.books l.trustee) l.went l.initial.self l.self
    l.initial.client.books l.client.books l.initial.tables l.tables
    × KeepsTables g.P.PairTable.theory l.initial.client.books l.client.books l.initial.tables l.tables
