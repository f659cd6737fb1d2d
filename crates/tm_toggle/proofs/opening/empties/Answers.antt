use Rattle.std.proofs.Common.{rules, ◌≡◌, ℕ, [], ◌∷◌, ◌++◌, length, replicate, arith, ap, ◌∙◌}
use lib.ListN.{length-replicate}
use Rattle.tm_toggle.proofs.Starting.{snoc, empty_of}
use Rattle.tm_toggle.proofs.opening.empties.Goals as goal

pub push_reserved-requires : goal.push_reserved-requires
push_reserved-requires g c =
    let empty = empty_of g.S.Entrusted.kind in
    let a = c.loop.slots.ok.0 in
    let b : length c.loop.slots.items ≡ c.loop.counter = ap length c.loop.invariant.0 ∙ length-replicate c.loop.counter empty in
    let d = c.loop-test.true in
    let e = c.loop.invariant.1 in omega arith

pub loop-preserved : goal.loop-preserved
loop-preserved g c =
    let empty = empty_of g.S.Entrusted.kind in
    (c.push_reserved.ensures.items ∙ (λ j. c.loop.slots.items ++ c.new.ensures j ∷ []) ∙ ap (λ l. l ++ empty ∷ []) c.loop.invariant.0 ∙ snoc c.loop.counter empty, search rules)

pub returns : goal.returns
returns g c =
    let empty = empty_of g.S.Entrusted.kind in
    let a = c.loop-test.false in
    let b = c.loop.auto.counter-end in
    let e : c.loop.counter ≡ c.args.count = omega arith in
    c.loop.invariant.0 ∙ ap (λ (n : ℕ). replicate n empty) e
