use Rattle.std.proofs.Common.{take}
use Rattle.std.specs.List.{flat_map}
use Rattle.mc_grammar.specs.Progress.{IsUnfinished}
use Rattle.mc_grammar.specs.Reading.{IsRead}
use Rattle.mc_grammar.proofs.pieces.read_pieces.Given as goal

abbrev pub invariant-loop-piece : goal.invariant-loop-piece
invariant-loop-piece l = record {
  unfinished : IsUnfinished l.reader;
  read : IsRead (flat_map (λ p. p.now) (take l.piece-index l.pieces)) l.messages.items l.reader;
}
