use Rattle.std.proofs.Common.{◌≡◌, take, vec_capacity}
use Rattle.tm_turns.specs.Closing.{AreRuns}
use Rattle.tm_turns.proofs.closing.count_all.Given as goal

-- the counts of the trustees so far
abbrev pub invariant-loop-trustee : goal.invariant-loop-trustee
invariant-loop-trustee g l = record {
  runs : AreRuns g.S.Entrusted.kind (take l.trustee-index l.trustees) l.counts.items;
  room : vec_capacity l.counts ≡ vec_capacity l.initial.counts;
}
