use Rattle.std.proofs.Common.{length, ap, arith}
use Rattle.tm_model.specs.State.{Object, State}
use Rattle.tm_reference.proofs.Keeping.{all_more, kept_set}
use Rattle.tm_reference.proofs.RowsServe.{launch-row}
use Rattle.tm_reference.proofs.reference_trustee.ReferenceTrustee.launch.Goals as goal

pub invariant_of-self-2 : goal.invariant_of-self-2
invariant_of-self-2 g c =
    kept_set _ _ c.in-Some.at _ _ _ c.launch.new.self c.self.invariant c.index_mut-object.ensures.value
    (ap (λ (o : Object _ _). o.id) c.in_default-launch.ensures.ok)
    (λ h. rw (ap (λ (o : Object _ _). o.works) c.in_default-launch.ensures.ok) (all_more _ _ _ h (omega (arith, c.requires, c.self.invariant.as_many, ap (λ (s : State _ _ _ _). length s.places) c.self.view_is))))

pub returns : goal.returns
returns g c =
    launch-row g.S.Entrusted.kind c.self.view_is c.as_slice.ensures.value c.args.place c.in-Some.at c.args.name c.args.task
    _ c.launch.new.self c.in-Some.ensures c.index_mut-object.ensures.value (omega (arith, c.if-self.false)) c.in_default-launch.ensures.ok
