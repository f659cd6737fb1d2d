use Rattle.std.proofs.Common.{◌∙◌}
use Rattle.mc_next.proofs.Planned.{planned}
use Rattle.mc_next.proofs.work.Work.of.Goals as goal

pub returns : goal.returns
returns c = λ named. planned named c.args.trustees c.args.command c.args.moment _ _ c.in_ok-ask.ensures.ask c.in_ok-ask.ensures.frame c.of-todo.ensures c.in_ok-asking.ensures.asked (c.in_ok-asking.ensures.count ∙ c.count_of.ensures)
