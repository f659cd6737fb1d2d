use Rattle.std.proofs.Common.{◌∙◌, ◌<◌, length, take, ap, arith}
use Rattle.tm_batch.specs.declared.limits.TheConstants.{MOST_COMPLETIONS}
use Rattle.tm_model.specs.State.{State, Place, place_count}
use Rattle.tm_reference.proofs.Leaves.{read_place, sends}
use Rattle.tm_reference.proofs.reference_trustee.ReferenceTrustee.send.Goals as goal

pub returns-then-place-len-clause-cause : goal.returns-then-place-len-clause-cause
returns-then-place-len-clause-cause g c =
    let count = ap (λ (s : State _ _ _ _). place_count s.setup) c.self.view_is in
    λ may. omega (arith, may.0, count, c.self.invariant.as_many, c.if-place-len.true, c.len.ensures, c.self.inside.places.ok.0)

pub returns-clause-may : goal.returns-clause-may
returns-clause-may g c =
    let count = ap (λ (s : State _ _ _ _). place_count s.setup) c.self.view_is in (
      omega (arith, count, c.self.invariant.as_many, c.if-place-len.false, c.len.ensures, c.self.inside.places.ok.0),
      c.if-room-gt-MOST_ROOM.false,
    )

pub returns-clause-leaves : goal.returns-clause-leaves
returns-clause-leaves g c = λ front answers.
    let within : c.args.place < length c.self.inside.places.items = omega (arith, c.if-place-len.false, c.len.ensures, c.self.inside.places.ok.0) in
    let at = read_place c.self.view_is c.args.place _ within c.index_mut-at.ensures.value in (
      c.in-Ok.ensures.gifts ∙ ap (λ (p : Place _ _ _ _). take c.args.room p.gifts) at,
      c.in-Ok.ensures.completions ∙ ap (λ (p : Place _ _ _ _). take MOST_COMPLETIONS p.ready) at,
    )

pub returns-clause-after : goal.returns-clause-after
returns-clause-after g c =
    let within : c.args.place < length c.self.inside.places.items = omega (arith, c.if-place-len.false, c.len.ensures, c.self.inside.places.ok.0) in
    sends g.S.Entrusted.kind c.self.view_is c.args.place c.args.room _ _ within c.index_mut-at.ensures.value c.in-Ok.ensures.left
