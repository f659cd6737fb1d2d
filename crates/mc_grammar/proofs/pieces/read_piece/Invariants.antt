use Rattle.std.proofs.Common.{◌≤◌, ◌-◌, length, take}
use Rattle.mc_grammar.specs.Progress.{IsUnfinished}
use Rattle.mc_grammar.specs.Pieces.{ReadsInto}
use Rattle.mc_grammar.proofs.pieces.read_piece.Given as goal

abbrev pub invariant-loop-at : goal.invariant-loop-at
invariant-loop-at l = record {
  within : l.at ≤ length l.piece;
  unfinished : IsUnfinished l.reader;
  reads : ReadsInto l.fn.reader l.fn.messages.items (take l.at l.piece) l.reader l.messages.items;
}

abbrev pub decreases-loop-at : goal.decreases-loop-at
decreases-loop-at l = length l.piece - l.at
