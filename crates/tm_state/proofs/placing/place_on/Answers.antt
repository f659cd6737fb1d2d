use Rattle.std.proofs.Common.{◌+◌, take, slice_index_or, ap}
use Rattle.tm_state.proofs.OpenedObjects.{next_holder, placed_first, placed_more, may_give}
use Rattle.tm_state.proofs.placing.place_on.Goals as goal

pub loop-place-init : goal.loop-place-init
loop-place-init g c =
    placed_first g.row.S-Task.Denot c.args.object c.args.objects.now _ _ c.requires (ap (λ l. slice_index_or l 0 0) c.places-places.ensures)
    (c.in-Ok.ensures.entrusted c.requires.room c.requires.id).1

pub give-requires-clause-live : goal.give-requires-clause-live
give-requires-clause-live g c =
    let next = next_holder c.args.object.holders c.places-places.result.now c.loop-place.place-index _ c.places-places.ensures c.requires.below c.loop-place-test.true in
    may_give g.row.S-Task.Denot c.args.object c.args.objects.now c.loop-place.objects (take (c.loop-place.place-index + 1) c.args.object.holders) _ _ c.known.ensures c.requires
    (c.in-Ok.ensures.entrusted c.requires.room c.requires.id).0 next.below c.loop-place.invariant

pub loop-place-preserved : goal.loop-place-preserved
loop-place-preserved g c =
    let next = next_holder c.args.object.holders c.places-places.result.now c.loop-place.place-index _ c.places-places.ensures c.requires.below c.loop-place-test.true in
    placed_more g.row.S-Task.Denot c.args.object c.args.objects.now c.loop-place.objects _ (c.loop-place.place-index + 1) _ c.in-Ok.name c.known.ensures
    (c.in-Ok.ensures.entrusted c.requires.room c.requires.id).0 next.below c.requires.once next.within next.place c.loop-place.invariant c.give.ensures
