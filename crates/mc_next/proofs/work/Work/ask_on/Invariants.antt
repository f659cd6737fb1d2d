use Rattle.std.proofs.Common.{◌≡◌, ◌≢◌, true, false, List, [], ◌++◌, length}
use Rattle.std.specs.Prelude.{◌↔◌}
use Rattle.mc_next.specs.declared.piece.Piece.{Piece}
use Rattle.mc_next.specs.Works.{left_of, HasAskedPieces}
use Rattle.mc_next.proofs.work.Work.ask_on.Given as goal

-- what was asked so far
abbrev pub invariant-pieces : goal.invariant-pieces
invariant-pieces g l = record {
  pieces : List Piece;
  left : left_of l.initial.self.todo ≡ pieces ++ left_of l.self.todo;
  some : (l.asked ≡ true) ↔ (pieces ≢ []);
  has : HasAskedPieces g.P.PairTable.theory.client_view l.fn.trusts pieces l.initial.self l.self l.initial.client.books l.client.books;
  same : l.asked ≡ false → l.client ≡ l.initial.client;
}

abbrev pub decreases-pieces : goal.decreases-pieces
decreases-pieces g l = length (left_of l.self.todo)
