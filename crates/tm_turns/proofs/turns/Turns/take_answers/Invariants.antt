use Rattle.tm_turns.proofs.Clients.{EachBelow}
use Rattle.tm_turns.proofs.Shutting.{DidTake}
use Rattle.tm_turns.proofs.turns.Turns.take_answers.Given as goal

-- of the clients so far all was taken
abbrev pub invariant-loop-client : goal.invariant-loop-client
invariant-loop-client g l = EachBelow (DidTake g.S.Entrusted.kind) l.client l.initial.self l.self
