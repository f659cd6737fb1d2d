use Rattle.std.proofs.Common.{sym}
use Rattle.tm_core.proofs.Newly.{new_shows}
use Rattle.tm_core.proofs.machine.Core.new.Goals as goal

pub invariant_of-result : goal.invariant_of-result
invariant_of-result c = rw c.new.ensures (record { shown = new_shows _ _ (sym c.in_ok-cells.cells.ok.0) c.in_ok-cells.ensures.new; allowed = tt })
