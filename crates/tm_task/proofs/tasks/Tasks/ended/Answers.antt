use Rattle.std.proofs.Common.{arith}
use Rattle.std.proofs.lemmas.List.Sums.{count_by-le-length}
use Rattle.tm_task.specs.Stages.{is_ended}
use Rattle.tm_task.proofs.tasks.Tasks.ended.Goals as goal

pub overflow_cast-result : goal.overflow_cast-result
overflow_cast-result g c =
    let most = c.requires.most in
    let few = count_by-le-length is_ended c.args.self.now.stages.items in
    let is = c.count_ended.ensures in
    omega (arith, most, few, is)
