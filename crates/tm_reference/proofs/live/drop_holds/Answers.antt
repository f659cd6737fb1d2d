use Rattle.std.proofs.Common.{slice_index_or, arith}
use Rattle.std.proofs.lemmas.List.{get_or_default}
use Rattle.std.proofs.lemmas.List.Edits.{map_over_more}
use Rattle.tm_model.specs.State.{with_holds}
use Rattle.tm_reference.proofs.Keeping.{mapped_all}
use Rattle.tm_reference.proofs.live.drop_holds.Goals as goal

pub returns : goal.returns
returns g c = mapped_all (with_holds c.args.place 0) c.args.live.now _ c.loop-object.object-index c.loop-object-test.false c.loop-object.invariant

pub loop-object-preserved : goal.loop-object-preserved
loop-object-preserved g c =
    let live = c.loop-object.live in
    let at = c.loop-object.object-index in
    rw c.set_holds.ensures
    (map_over_more (with_holds c.args.place 0) c.args.live.now live at (slice_index_or live at c.object-item.result) c.loop-object-test.true
    c.loop-object.invariant (get_or_default live at c.object-item.result _ (omega (arith, c.loop-object-test.true, c.loop-object.auto.live))))
