use Rattle.std.proofs.Common.{sym, arith}
use Rattle.std.proofs.lemmas.List.FromFn.{map-range_with_len_more}
use Rattle.tm_reference.proofs.opening.open_object.Goals as goal

pub loop-place-preserved : goal.loop-place-preserved
loop-place-preserved g c =
    rw (c.in_ok-push.ensures.items, c.loop-place.invariant, c.hold_of-hold.ensures, c.names.ensures, c.places.ensures)
    (sym (map-range_with_len_more _ 0 c.loop-place.place c.loop-place.place (omega arith)))
