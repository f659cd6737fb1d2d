use Rattle.std.proofs.Common.{sym, arith}
use Rattle.std.proofs.lemmas.List.FromFn.{map-range_with_len_more}
use Rattle.tm_reference.proofs.opening.ids_above.Goals as goal

pub loop-trustee-preserved : goal.loop-trustee-preserved
loop-trustee-preserved g c =
    rw (c.in_ok-push.ensures.items, c.loop-trustee.invariant, c.in_ok-held.ensures)
    (sym (map-range_with_len_more _ 0 c.loop-trustee.trustee c.loop-trustee.trustee (omega arith)))
