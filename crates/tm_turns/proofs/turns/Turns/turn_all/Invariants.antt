use Rattle.tm_turns.specs.Going.{TurnsBelow}
use Rattle.tm_turns.proofs.turns.Turns.turn_all.Given as goal

-- the turns at the trustees before this one
abbrev pub invariant-loop-trustee : goal.invariant-loop-trustee
invariant-loop-trustee g l = TurnsBelow g.S.Entrusted.kind l.client l.trustee l.moved l.initial.self l.self
