use Rattle.std.proofs.Common.{◌≡◌, ◌<◌, ◌++◌, ◌∷◌, [], length, refl, arith}
use Rattle.std.proofs.lemmas.Grind.{common_steps}
use Rattle.tm_task.specs.declared.stage.Stage.TheVariants.{Fresh}
use Rattle.tm_task.proofs.WholeTurn.{tasks_added}
use Rattle.tm_task.proofs.tasks.Tasks.add.Goals as goal

pub returns-clause-tasks : goal.returns-clause-tasks
returns-clause-tasks g c =
    let old = c.args.self.now in
    let room : length old.stages.items < old.room = grind (arith, common_steps) in
    let pushed : c.push.new.self.items ≡ old.stages.items ++ Fresh c.args.task ∷ [] = grind (arith, common_steps) in
    tasks_added g.T.Task.rules c.args.task old _ c.requires room c.added-self.ensures pushed c.push.ensures.capacity refl refl refl
