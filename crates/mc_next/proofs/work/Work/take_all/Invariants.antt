use Rattle.std.proofs.Common.{◌≡◌, ◌≢◌, true, false, [], length}
use Rattle.mc_next.specs.Works.{HasTakenReplies}
use Rattle.mc_next.proofs.work.Work.take_all.Given as goal

-- what was taken so far
abbrev pub invariant-replies : goal.invariant-replies
invariant-replies g l = record {
  has : HasTakenReplies g.P.PairTable.theory.client_view l.initial.self l.self l.initial.client.books l.client.books;
  none : l.took ≡ false → (l.client ≡ l.initial.client) × (l.self ≡ l.initial.self);
  some : l.took ≡ true → l.initial.client.books.arrived.items ≢ [];
}

abbrev pub decreases-replies : goal.decreases-replies
decreases-replies g l = length l.client.books.arrived.items
