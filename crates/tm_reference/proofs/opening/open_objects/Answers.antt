use Rattle.std.proofs.Common.{◌≡◌, ◌+◌, ◌++◌, ◌∷◌, [], length, ap, ◌∙◌, arith}
use Rattle.tm_reference.proofs.Opened.{opens_more, opens_same}
use Rattle.tm_reference.proofs.opening.open_objects.Goals as goal

pub loop-object-preserved-in-Continue-branch-2 : goal.loop-object-preserved-in-Continue-branch-2
loop-object-preserved-in-Continue-branch-2 g c =
    let id : c.len.result + 1 ≡ length c.loop-object.live.items + 1 = omega (arith, c.len.ensures, c.loop-object.live.ok.0) in
    opens_more c.args.count c.args.number _ c.loop-object.yielded c.in-Some.object c.loop-object.live.items _ c.if-object-number.true
    c.loop-object.invariant id (c.in_ok-push.ensures.items ∙ ap (λ o. c.loop-object.live.items ++ o ∷ []) c.in_ok-opened.ensures)

pub loop-object-preserved : goal.loop-object-preserved
loop-object-preserved g c =
    opens_same c.args.count c.args.number c.loop-object.yielded c.in-Some.object c.loop-object.live.items c.if-object-number.false
    c.loop-object.invariant
