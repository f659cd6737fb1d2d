use Rattle.std.proofs.Common.{◌≡◌, ◌+◌, ◌∷◌, [], ◌++◌, length, slice_set, ◌∙◌, ap, refl, arith}
use Rattle.std.proofs.Math.ListN.{replicate}
use Rattle.tm_reference.proofs.Keeping.{kept_more}
use Rattle.tm_reference.proofs.RowsServe.{entrust-row}
use Rattle.tm_reference.proofs.reference_trustee.ReferenceTrustee.entrust.Goals as goal

pub invariant_of-self-2 : goal.invariant_of-self-2
invariant_of-self-2 g c = kept_more _ _ _ _ _ _ c.self.invariant refl c.new.ensures.items c.in_default-push.ensures.items

pub returns : goal.returns
returns g c =
    let places : c.len-2.result ≡ length c.self.inside.places.items = omega (arith, c.len-2.ensures, c.self.inside.places.ok.0) in
    entrust-row g.S.Entrusted.kind c.self.view_is c.args.place 0 c.args.value c.in-Ok.holds.items _
    (omega (arith, c.len.ensures, c.if-len-self.false, c.self.inside.live.ok.0)) (omega (arith, c.if-self.false))
    (c.in-Ok.ensures ∙ ap (λ n. slice_set (replicate n 0) c.args.place 1) places)
    (c.in_default-push.ensures.items
    ∙ ap (λ ws. c.self.inside.live.items ++ record { id = c.self.inside.ids + 1; value = c.args.value; holds = c.in-Ok.holds.items; works = ws } ∷ []) c.new.ensures.items)
