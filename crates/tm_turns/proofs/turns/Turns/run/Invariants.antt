use Rattle.tm_turns.proofs.Going.{IsRunning, to_run}
use Rattle.tm_turns.proofs.turns.Turns.run.Given as goal

-- what was done before the last round
abbrev pub invariant-loop-more : goal.invariant-loop-more
invariant-loop-more g l = IsRunning g.S.Entrusted.kind l.order l.moved l.more l.fn.self l.self

abbrev pub decreases-loop-more : goal.decreases-loop-more
decreases-loop-more g l = to_run g.S.Entrusted.kind l.more l.self
