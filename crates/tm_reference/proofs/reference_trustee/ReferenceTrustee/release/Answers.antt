use Rattle.std.proofs.Common.{ap}
use Rattle.tm_model.specs.State.{Object}
use Rattle.tm_reference.proofs.Keeping.{kept_same, kept_filter}
use Rattle.tm_reference.proofs.RowsServe.{release-row}
use Rattle.tm_reference.proofs.reference_trustee.ReferenceTrustee.release.Goals as goal

pub invariant_of-self : goal.invariant_of-self
invariant_of-self g c =
    kept_filter _ _ _ _ _ _
    (kept_same _ _ c.in-Some.at _ _ _ c.set_holds.new.self c.self.invariant c.index_mut-object.ensures.value
    (ap (λ (o : Object _ _). o.id) c.set_holds.ensures) (ap (λ (o : Object _ _). o.works) c.set_holds.ensures))
    c.keep.ensures

pub returns : goal.returns
returns g c =
    release-row g.S.Entrusted.kind c.self.view_is c.as_slice.ensures.value c.args.place c.in-Some.at _ c.args.name
    _ c.set_holds.new.self _ c.in-Some.ensures c.index_mut-object.ensures.value c.holds_of-holds.ensures c.set_holds.ensures c.keep.ensures
