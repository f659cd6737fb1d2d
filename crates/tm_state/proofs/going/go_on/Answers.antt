use Rattle.std.proofs.Common.{◌∙◌, ap}
use Rattle.tm_latch.specs.declared.ticket.Ticket.{Ticket}
use Rattle.tm_state.specs.Launches.{Pending}
use Rattle.tm_state.proofs.TaskRuns.{done_none}
use Rattle.tm_state.proofs.going.go_on.Goals as goal

pub loop-reply-init : goal.loop-reply-init
loop-reply-init g c =
    done_none g.S.Entrusted.kind c.args.number c.args.held.now c.launch.inside.id c.launch.inside.ticket c.args.value.now c.args.launch.task.task c.args.event c.args.made.now c.args.entries.now
    c.into_task-task.result (c.into_task-task.ensures ∙ ap (λ (l : Ticket (Pending _)). l.task.task) c.launch.view_is)
