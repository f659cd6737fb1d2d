use Rattle.std.proofs.Common.{◌≡◌, length, replicate}
use Rattle.tm_toggle.proofs.rows.blanks.Given as goal

abbrev pub invariant-loop : goal.invariant-loop
invariant-loop g l = record {
  blank : (x : g.row.T.Denot) → ((d : g.row.T.Denot) → g.T.Default.is_default d → d ≡ x) → l.row.items ≡ replicate l.counter x;
  many : length l.row.items ≡ l.counter;
}
