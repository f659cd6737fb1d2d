use Rattle.std.proofs.Common.{◌≡◌, length}
use Rattle.tm_trustee.proofs.AboveSteps.{MovesUpTo}
use Rattle.tm_trustee.proofs.above.go_above.Given as goal

-- the sides before this one have moved
abbrev pub invariant-loop-i : goal.invariant-loop-i
invariant-loop-i g l = record {
  seats : l.seats ≡ length l.initial.above.items;
  moves :
      MovesUpTo g.P.PairTable.theory g.W.Step.Goes l.from l.i l.initial.tables l.tables l.initial.lanes.items l.lanes.items
      l.initial.above.items l.above.items l.moved;
}
