use Rattle.std.proofs.Common.{refl}
use Rattle.tm_reference.proofs.WorkGoesOn.{advance-row}
use Rattle.tm_reference.proofs.object.ReferenceObject.advance.Goals as goal

pub returns-in-Ask : goal.returns-in-Ask
returns-in-Ask g c =
    advance-row g.S.Entrusted.kind g.met.S.Entrusted.laws c.self.view_is c.requires c.work.view_is c.remove-work.ensures.value _ _
    c.remove-work.ensures.items c.args.event _ _ _ c.in-Ask.ensures (rw c.unwrap.ensures at c.insert.ensures.items) (refl, refl, refl, refl)

pub returns-in-Done : goal.returns-in-Done
returns-in-Done g c =
    advance-row g.S.Entrusted.kind g.met.S.Entrusted.laws c.self.view_is c.requires c.work.view_is c.remove-work.ensures.value _ _
    c.remove-work.ensures.items c.args.event _ _ _ c.in-Done.ensures refl (refl, refl)
