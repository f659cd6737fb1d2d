use Rattle.std.proofs.Common.{refl, arith}
use Rattle.tm_reference.specs.Parts.{awaits_of}
use Rattle.tm_reference.proofs.WorkGoesOn.{may_be, may_not_be, place_of_first, not_awaited, resumed-row, kept_resumed}
use Rattle.tm_reference.proofs.reference_trustee.ReferenceTrustee.resume.Goals as goal

pub returns-then-not-is_awaited-clause-cause : goal.returns-then-not-is_awaited-clause-cause
returns-then-not-is_awaited-clause-cause g c = (
  refl,
  not_awaited g.S.Entrusted.kind c.self.view_is c.as_slice.ensures.value c.args.id c.in-Some.at c.in-Some-first.place
      (awaits_of c.in-Some-first.awaited) c.args.event c.in-Some.ensures _ c.index_mut-object.ensures.value c.in-Some-first.ensures
      (may_not_be c.is_awaited.result c.self.inside.config c.self.inside.number _ _ c.as_slice-2.ensures.value (c.is_awaited.ensures c.self.inside.config)
      c.if-not-is_awaited.true),
)

pub index_mut-other-requires : goal.index_mut-other-requires
index_mut-other-requires g c =
    let within =
    place_of_first _ _ c.in-Some.at c.in-Some-first.place c.self.inside.places.items c.as_slice.ensures.value c.args.id
    (awaits_of c.in-Some-first.awaited) c.in-Some.ensures _ c.self.invariant c.index_mut-object.ensures.value c.in-Some-first.ensures in
    omega (arith, within, c.self.inside.places.ok.0)

pub invariant_of-self-in-Ok : goal.invariant_of-self-in-Ok
invariant_of-self-in-Ok g c =
    kept_resumed g.S.Entrusted.kind _ _ c.in-Some.at c.in-Some-first.place _ _ _ _ _ _ c.args.event _ c.self.invariant c.index_mut-object.ensures.value
    c.in-Ok.ensures.ok c.keep.ensures

pub returns-in-Ok-clause-ok : goal.returns-in-Ok-clause-ok
returns-in-Ok-clause-ok g c =
    let within =
    place_of_first _ _ c.in-Some.at c.in-Some-first.place c.self.inside.places.items c.as_slice.ensures.value c.args.id
    (awaits_of c.in-Some-first.awaited) c.in-Some.ensures _ c.self.invariant c.index_mut-object.ensures.value c.in-Some-first.ensures in
    resumed-row g.S.Entrusted.kind c.self.view_is c.as_slice.ensures.value c.args.id c.in-Some.at c.in-Some-first.place
    (awaits_of c.in-Some-first.awaited) c.args.event c.in-Some.ensures _ _ _ _ c.in-Ok.resumed _ c.index_mut-object.ensures.value
    c.in-Some-first.ensures
    (may_be c.is_awaited.result c.self.inside.config c.self.inside.number _ _ c.as_slice-2.ensures.value (c.is_awaited.ensures c.self.inside.config)
    c.if-not-is_awaited.false) within c.index_mut-other.ensures.value c.in-Ok.ensures.ok c.keep.ensures
