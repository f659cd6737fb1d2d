use Rattle.std.proofs.Common.{◌∙◌, refl, sym}
use Rattle.tm_latch.proofs.Latched.{holder_some, first_absent}
use Rattle.tm_latch.proofs.latches.Latches.holder.Goals as goal

pub returns-in-Some : goal.returns-in-Some
returns-in-Some g c =
    rw (← c.self.view_is) (sym (holder_some _ _ _ _ _ c.self.invariant c.args.id c.in-Some.line (sym (c.line_of.ensures c.self.invariant.lines c.self.invariant.table) ∙ c.in-Some.is)))

pub returns-in-None : goal.returns-in-None
returns-in-None g c =
    rw (← c.self.view_is, first_absent _ _ _ _ _ c.self.invariant c.args.id (sym (c.line_of.ensures c.self.invariant.lines c.self.invariant.table) ∙ c.in-None.is)) refl
