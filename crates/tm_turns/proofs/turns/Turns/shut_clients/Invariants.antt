use Rattle.tm_turns.proofs.Clients.{EachBelow}
use Rattle.tm_turns.proofs.Shutting.{DidShut}
use Rattle.tm_turns.proofs.turns.Turns.shut_clients.Given as goal

-- the clients so far are closed
abbrev pub invariant-loop-client : goal.invariant-loop-client
invariant-loop-client g l = EachBelow (DidShut g.S.Entrusted.kind) l.client l.initial.self l.self
