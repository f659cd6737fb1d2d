use Rattle.std.proofs.Common.{sym, ◌∙◌}
use Rattle.tm_task.proofs.Doing.{fresh_there}
use Rattle.tm_task.proofs.Places.{read_at}
use Rattle.tm_task.proofs.tasks.Tasks.start_fresh.Goals as goal

pub start-requires : goal.start-requires
start-requires g c =
    let at = read_at c.args.self.now.stages.items c.args.number c.index.result.now c.requires c.index.ensures in
    let (task, is) = fresh_there c.index.result.now (sym c.is_fresh.ensures ∙ c.if-not-is_fresh.false) in
    (task, at ∙ is)
