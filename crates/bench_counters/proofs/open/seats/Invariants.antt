use Rattle.std.proofs.Common.{length}
use Rattle.std.specs.Prelude.{All}
use Rattle.tm_seq.specs.Counting.{counter_kind}
use Rattle.tm_toggle.specs.Shared.{shared_theory}
use Rattle.bench_counters.specs.Counting.{AreSeats, MayAsk}
use Rattle.bench_counters.proofs.open.seats.Given as goal

abbrev pub invariant-loop-side : goal.invariant-loop-side
invariant-loop-side l =
    All (λ side. MayAsk (shared_theory counter_kind) l.table side) l.sides.items × AreSeats (shared_theory counter_kind) l.seats.items

abbrev pub decreases-loop-side : goal.decreases-loop-side
decreases-loop-side l = length l.sides.items
