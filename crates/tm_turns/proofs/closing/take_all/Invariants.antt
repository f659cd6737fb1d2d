use Rattle.std.proofs.Common.{ℕ, length}
use Rattle.tm_turns.specs.Whole.{StillClient}
use Rattle.tm_turns.specs.Closing.{TakesFirst}
use Rattle.tm_turns.proofs.closing.take_all.Given as goal

-- some of what arrived was taken
abbrev pub invariant-loop : goal.invariant-loop
invariant-loop g l = record {
  takes : (n : ℕ) × TakesFirst n l.initial.client.books l.client.books;
  still : StillClient g.S.Entrusted.kind l.initial.client l.client;
}

abbrev pub decreases-loop : goal.decreases-loop
decreases-loop g l = length l.client.books.arrived.items
