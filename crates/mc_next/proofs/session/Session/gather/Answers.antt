use Rattle.std.proofs.Common.{ap, inl, inr}
use Rattle.std.specs.declared.option.Option.TheVariants.{Some}
use Rattle.mc_next.specs.declared.ended.Ended.TheVariants.{NoMemory}
use Rattle.mc_next.proofs.session.Session.gather.Goals as goal

pub returns-in-Ok : goal.returns-in-Ok
returns-in-Ok c = inl (ap (λ l. record c.args.self.now { gathered = l }) c.in-Ok.ensures.ok)

pub returns-in-Err : goal.returns-in-Err
returns-in-Err c = inr (ap (λ l. record c.args.self.now { gathered = l; stopped = Some NoMemory }) c.in-Err.ensures.err)
