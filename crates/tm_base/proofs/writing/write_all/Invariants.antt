use Rattle.std.proofs.Common.{◌≡◌, ◌≤◌, ◌-◌, length, take}
use Rattle.tm_base.specs.Visible.{Grows}
use Rattle.tm_base.proofs.writing.write_all.Given as goal

abbrev pub invariant-loop-at : goal.invariant-loop-at
invariant-loop-at g l =
    record {
      within : l.at ≤ length l.from;
      wrote : Grows (g.K.Sink.written l.fn.sink) (g.K.Sink.written l.sink) (take l.at l.from);
      no_fault : g.K.Sink.faults l.sink ≡ g.K.Sink.faults l.fn.sink;
    }

abbrev pub decreases-loop-at : goal.decreases-loop-at
decreases-loop-at g l = length l.from - l.at
