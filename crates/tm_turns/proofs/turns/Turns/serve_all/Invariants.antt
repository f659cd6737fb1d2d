use Rattle.std.proofs.Common.{◌≡◌, ◌≤◌, length}
use Rattle.std.specs.List.{range_with_len}
use Rattle.tm_turns.specs.Going.{AllGo}
use Rattle.tm_turns.proofs.turns.Turns.serve_all.Given as goal

-- the trustees before this one had their turns
abbrev pub invariant-loop-trustee : goal.invariant-loop-trustee
invariant-loop-trustee g l = record {
  goes : AllGo g.S.Entrusted.kind (range_with_len (length l.initial.self.clients.items) l.trustee) l.moved l.initial.self l.self;
  clients : l.self.clients ≡ l.initial.self.clients;
  most : l.moved ≤ l.trustee;
}
