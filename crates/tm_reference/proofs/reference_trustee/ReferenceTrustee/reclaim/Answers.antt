use Rattle.std.proofs.Common.{ap, refl}
use Rattle.tm_model.specs.State.{Object}
use Rattle.tm_reference.proofs.Keeping.{kept_removed}
use Rattle.tm_reference.proofs.RowsServe.{reclaim-row}
use Rattle.tm_reference.proofs.reference_trustee.ReferenceTrustee.reclaim.Goals as goal

pub invariant_of-self : goal.invariant_of-self
invariant_of-self g c =
    kept_removed _ _ _ _ _ c.as_slice.ensures.value c.args.place c.args.name.id c.in-Some.at c.self.invariant c.in-Some.ensures c.remove-object.ensures.items

pub returns : goal.returns
returns g c =
    reclaim-row g.S.Entrusted.kind c.self.view_is c.as_slice.ensures.value c.args.place c.in-Some.at c.args.name _ _ _ _ c.in-Some.ensures
    c.index-object.ensures (c.if-not-is_last.ensures.0 refl) c.remove-object.ensures.value (ap (λ (o : Object _ _). o.value) c.object.view_is) c.remove-object.ensures.items
