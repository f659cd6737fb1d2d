use Rattle.std.proofs.Common.{arith}
use Rattle.tm_core.proofs.Newly.{none_new, one_more_new}
use Rattle.tm_core.proofs.cells.new_cells.Goals as goal

pub loop-init : goal.loop-init
loop-init c = record { count = c.new-cells.ensures.len; new = none_new _ c.new-cells.ensures.items }

pub loop-preserved : goal.loop-preserved
loop-preserved c = record { count = omega (arith, c.in_ok-push.ensures.len, c.loop.invariant.count); new = one_more_new c.loop.cells.items c.new.result _ c.in_ok-push.ensures.items c.loop.invariant.new c.new.ensures }
