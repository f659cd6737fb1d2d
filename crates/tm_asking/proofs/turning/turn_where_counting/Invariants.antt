use Rattle.std.proofs.Common.{◌≡◌, ℕ, List}
use Rattle.tm_asking.specs.Asking.{IsAsking}
use Rattle.tm_asking.specs.Turning.{IsAtTables, TurnsBelow}
use Rattle.tm_asking.proofs.turning.turn_where_counting.Given as goal

-- the turns at the trustees before this one
abbrev pub invariant-loop-trustee : goal.invariant-loop-trustee
invariant-loop-trustee g l = record {
  turned : TurnsBelow g.P.PairTable.theory g.S.Entrusted.kind l.trustee l.told l.fn.tables l.fn.client.books l.tables l.client.books;
  home : (openings : ℕ → _) → IsAtTables g.P.PairTable.theory openings l.fn.tables l.fn.client.books → IsAtTables g.P.PairTable.theory openings l.tables l.client.books;
  asks : (missing : _) (was : ℕ → _) (asked : List _) (replies : List _) → IsAsking g.P.PairTable.theory.client_view missing was asked replies l.fn.client.books
      → IsAsking g.P.PairTable.theory.client_view missing was asked replies l.client.books;
  held : l.client.books.held ≡ l.fn.client.books.held;
}
