use Rattle.std.proofs.Common.{ap, inl, inr}
use Rattle.std.specs.declared.option.Option.TheVariants.{Some}
use Rattle.mc_next.specs.declared.ended.Ended.TheVariants.{WriteFault}
use Rattle.mc_next.proofs.session.Session.write.Goals as goal

pub returns-in-Ok : goal.returns-in-Ok
returns-in-Ok g c = inl (c.in-Ok.ensures.ok, ap (λ l. record c.args.self.now { gathered = l }) c.in-Ok.ensures.gone, c.in-Ok.ensures.no_fault)

pub returns-in-Err : goal.returns-in-Err
returns-in-Err g c = inr (c.in-Err.ensures.err, ap (λ l. record c.args.self.now { gathered = l; stopped = Some WriteFault }) c.in-Err.ensures.kept, c.in-Err.ensures.cause.failed)
