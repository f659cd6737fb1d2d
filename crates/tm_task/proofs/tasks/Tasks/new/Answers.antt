use Rattle.tm_task.proofs.WholeTurn.{tasks_first}
use Rattle.tm_task.proofs.tasks.Tasks.new.Goals as goal

pub returns-clause-tasks : goal.returns-clause-tasks
returns-clause-tasks g c =
    tasks_first g.T.Task.rules _ c.new.ensures c.in_ok-stages.ensures.items c.in_ok-outs.ensures.items c.in_ok-stages.ensures.capacity
    c.in_ok-outs.ensures.capacity
