use Rattle.std.proofs.Common.{◌≡◌, map, drop}
use Rattle.tm_turns.specs.Making.{AreNewClients}
use Rattle.tm_turns.proofs.making.clients_of.Given as goal

-- the clients so far are made, and their lists are gone
abbrev pub invariant-loop-number : goal.invariant-loop-number
invariant-loop-number g l = record {
  made : AreNewClients g.S.Entrusted.kind l.config l.first.items l.number (map (λ v. v.items) l.initial.seats.items) l.clients.items (map (λ v. v.items) l.trusts.items);
  rest : l.seats.items ≡ drop l.number l.initial.seats.items;
}
