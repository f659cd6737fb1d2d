use Rattle.tm_state.proofs.TaskRuns.{HasDone}
use Rattle.tm_state.proofs.going.go_on.Given as goal

-- what the task has done so far
abbrev pub invariant-loop-reply : goal.invariant-loop-reply
invariant-loop-reply g l =
    HasDone g.S.Entrusted.kind l.number l.held l.id l.ticket l.fn.value l.fn.launch.task.task l.fn.event l.fn.made l.fn.entries
    l.value l.task l.event l.made l.entries

-- each ask is closer to the end of the task
abbrev pub decreases-loop-reply : goal.decreases-loop-reply
decreases-loop-reply g l = g.S.Entrusted.kind.left l.task
