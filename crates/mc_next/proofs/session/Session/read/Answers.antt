use Rattle.std.proofs.Common.{refl, ap, inl, inr, ◌∙◌}
use Rattle.std.specs.declared.result.Result.TheVariants.{Ok}
use Rattle.mc_next.proofs.Came.{told_same}
use Rattle.mc_next.proofs.session.Session.read.Goals as goal

pub returns-in-Ok : goal.returns-in-Ok
returns-in-Ok g c = inl (c.in-Ok.came, c.read.new.self, c.note.ensures ∙ told_same c.in-Ok.came c.read.new.self c.args.self.now, c.in-Ok.ensures.no_fault, λ e. c.in-Ok.ensures.end (ap Ok e), c.in-Ok.ensures.read)

pub returns-in-Err : goal.returns-in-Err
returns-in-Err g c = inr (c.read.new.self, refl, c.in-Err.ensures.cause.failed, c.in-Err.ensures.stays, c.in-Err.ensures.none, c.in-Err.ensures.kept)
