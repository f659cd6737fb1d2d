use Rattle.tm_task_tests.proofs.tests.start.built.Goals as goal

pub returns-in-Ok : goal.returns-in-Ok
returns-in-Ok c = (_, _, c.small.ensures.clients, c.small.ensures.trustees, c.in-Ok.ensures.built)
