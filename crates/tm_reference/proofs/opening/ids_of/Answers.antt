use Rattle.std.proofs.Common.{take, ap, ◌∙◌, arith, length-take-le}
use Rattle.std.specs.Prelude.{◌==◌}
use Rattle.std.specs.List.{list_any}
use Rattle.tm_reference.proofs.Opened.{placed_le, skips, notes}
use Rattle.tm_reference.proofs.opening.ids_of.Goals as goal

pub overflow_add-placed : goal.overflow_add-placed
overflow_add-placed g c =
    let front = take c.loop-object.object-index c.args.first.now in
    omega (
      arith,
      c.loop-object.invariant.placed,
      placed_le c.args.trustee front,
      length-take-le c.loop-object.object-index c.args.first.now,
      c.loop-object-test.true,
    )

pub loop-object-preserved : goal.loop-object-preserved
loop-object-preserved g c =
    let named = c.names-is_named.ensures ∙ ap (list_any (λ h. h == c.args.place)) c.places.ensures in
    let n =
    notes c.args.trustee c.args.place c.loop-object.object-index c.args.first.now c.object-item.result c.loop-object.ids.items
    c.note.new.ids.items c.loop-object.placed c.names-is_named.result c.loop-object-test.true c.object-item.is c.if-object-trustee.false
    c.loop-object.invariant.ids c.loop-object.invariant.placed named c.in_ok-note.ensures in
    record { ids = n.ids_are; placed = n.count }

pub loop-object-preserved-then-object-trustee : goal.loop-object-preserved-then-object-trustee
loop-object-preserved-then-object-trustee g c =
    let n =
    skips c.args.trustee c.args.place c.loop-object.object-index c.args.first.now c.object-item.result c.loop-object.ids.items
    c.loop-object.placed c.loop-object-test.true c.object-item.is c.if-object-trustee.true c.loop-object.invariant.ids c.loop-object.invariant.placed in
    record { ids = n.ids_are; placed = n.count }
