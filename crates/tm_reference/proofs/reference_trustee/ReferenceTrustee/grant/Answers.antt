use Rattle.std.proofs.Common.{length, ap, sym, ◌∙◌, arith}
use Rattle.tm_model.specs.State.{Object, Place}
use Rattle.tm_reference.proofs.Keeping.{kept_same, kept_place}
use Rattle.tm_reference.proofs.RowsServe.{grant-row}
use Rattle.tm_reference.proofs.reference_trustee.ReferenceTrustee.grant.Goals as goal

pub invariant_of-self-2 : goal.invariant_of-self-2
invariant_of-self-2 g c =
    kept_same _ _ c.in-Some.at _ _ _ c.set_holds.new.self (kept_place _ _ c.args.to _ _ _ c.self.invariant) c.index_mut-object.ensures.value
    (ap (λ (o : Object _ _). o.id) c.set_holds.ensures)
    (ap (λ (o : Object _ _). o.works) c.set_holds.ensures)

pub returns : goal.returns
returns g c =
    let open_place = ap (λ (p : Place _ _ _ _). p.is_closed) (sym c.other.view_is) ∙ c.if-other.false in
    let gifts = ap (λ (p : Place _ _ _ _). length p.gifts) c.other.view_is in
    grant-row g.S.Entrusted.kind c.self.view_is c.as_slice.ensures.value c.args.place c.in-Some.at c.args.to _ c.args.name
    _ c.set_holds.new.self _ _ c.in-Some.ensures c.index_mut-object.ensures.value (omega (arith, c.if-to-self.false))
    (omega (arith, c.if-to-self.false, c.self.invariant.as_many)) c.index_mut-other.ensures.value open_place c.holds_of-holds.ensures
    (omega (arith, gifts, c.len.ensures, c.if-len-ge-MOST_GIFTS.false, c.other.inside.gifts.ok.0))
    (omega (arith, c.if-holds.false, c.holds_of-holds.type_inv)) c.in-Ok.ensures.ok c.set_holds.ensures
