use Rattle.std.proofs.Common.{length, map, ap, ◌∙◌, arith}
use Rattle.std.proofs.lemmas.List.{with_items_is}
use Rattle.tm_model.specs.State.{State, with_holds, kept}
use Rattle.tm_reference.proofs.Keeping.{kept_filter, kept_map, kept_place}
use Rattle.tm_reference.proofs.RowsServe.{closes}
use Rattle.tm_reference.proofs.reference_trustee.ReferenceTrustee.close.Goals as goal

pub invariant_of-self : goal.invariant_of-self
invariant_of-self g c =
    let live = c.self.inside.live in
    let dropped =
    with_items_is live c.drop_holds.new.live (c.drop_holds.auto.live ∙ c.as_mut_slice.ensures.len)
    ∙ c.drop_holds.ensures ∙ ap (map (with_holds c.args.place 0)) c.as_mut_slice.ensures.value in
    kept_place _ _ c.args.place _ _ _
    (kept_filter _ _ _ _ _ _ (kept_map _ _ c.args.place _ live.items c.self.invariant) (c.keep.ensures ∙ ap kept dropped))

pub returns-clause-closed : goal.returns-clause-closed
returns-clause-closed g c =
    let live = c.self.inside.live in
    let dropped =
    with_items_is live c.drop_holds.new.live (c.drop_holds.auto.live ∙ c.as_mut_slice.ensures.len)
    ∙ c.drop_holds.ensures ∙ ap (map (with_holds c.args.place 0)) c.as_mut_slice.ensures.value in
    closes c.self.view_is c.args.place _ c.close.new.self _ _ (omega (arith, c.requires, ap (λ (s : State _ _ _ _). length s.places) c.self.view_is)) c.index_mut-at.ensures.value c.close.ensures dropped c.keep.ensures
