use Rattle.tm_turns.specs.Opening.{AreOpened}
use Rattle.tm_turns.proofs.opened.open_all.Given as goal

-- the tables so far are open
abbrev pub invariant-loop-number : goal.invariant-loop-number
invariant-loop-number g l = AreOpened g.S.Entrusted.kind l.config l.first.items l.number l.opened
