use Rattle.std.proofs.Common.{ap}
use Rattle.tm_model.specs.State.{Object}
use Rattle.tm_reference.proofs.Keeping.{kept_same}
use Rattle.tm_reference.proofs.RowsServe.{apply-row}
use Rattle.tm_reference.proofs.reference_trustee.ReferenceTrustee.apply.Goals as goal

pub invariant_of-self : goal.invariant_of-self
invariant_of-self g c =
    kept_same _ _ c.in-Some.at _ _ _ c.run.new.self c.self.invariant c.index_mut-object.ensures.value
    (ap (λ (o : Object _ _). o.id) c.run.ensures.value)
    (ap (λ (o : Object _ _). o.works) c.run.ensures.value)

pub returns : goal.returns
returns g c =
    apply-row g.S.Entrusted.kind g.met.S.Entrusted.laws c.self.view_is c.as_slice.ensures.value c.args.place c.in-Some.at c.args.name c.args.op c.run.result
    _ c.run.new.self c.in-Some.ensures c.index_mut-object.ensures.value c.run.ensures.lawful c.run.ensures.value
