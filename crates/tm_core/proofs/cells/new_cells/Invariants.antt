use Rattle.std.proofs.Common.{◌≡◌, vec_len}
use Rattle.tm_core.specs.Shown.{AreNew}
use Rattle.tm_core.proofs.cells.new_cells.Given as goal

abbrev pub invariant-loop : goal.invariant-loop
invariant-loop l = record { count : vec_len l.cells ≡ l.counter; new : AreNew l.cells.items }
