use Rattle.std.proofs.Common.{refl, ◌∙◌, subst}
use Rattle.std.specs.Prelude.{All}
use Rattle.std.proofs.lemmas.List.{take_all}
use Rattle.std.proofs.lemmas.List.Elements.{All-more}
use Rattle.tm_build.specs.Checking.{IsWellPlaced}
use Rattle.tm_build.proofs.check.are_well_placed.Goals as goal

pub loop-f-preserved : goal.loop-f-preserved
loop-f-preserved g c =
    let items = c.deref-f-items.result.now in
    let here : IsWellPlaced c.args.config c.f-item.result = c.is_well_placed.ensures.0 c.if-not-is_well_placed.false in
    All-more (IsWellPlaced c.args.config) items c.loop-f.f-index c.f-item.result c.loop-f-test.true c.loop-f.invariant
    (subst (λ f. IsWellPlaced c.args.config f) c.f-item.is here)

pub returns : goal.returns
returns g c =
    let items = c.deref-f-items.result.now in
    let all : All (IsWellPlaced c.args.config) c.args.first.now.items =
    subst (λ xs. All (IsWellPlaced c.args.config) xs) (take_all c.loop-f.f-index items c.loop-f-test.false ∙ c.deref-f-items.ensures.value) c.loop-f.invariant in
    (λ yes. all, λ placed. refl)
