use Rattle.tm_turns_tests.specs.Adding.{IsOfOne}
use Rattle.tm_turns_tests.proofs.adding.fill.Given as goal

abbrev pub invariant-loop-number : goal.invariant-loop-number
invariant-loop-number l = IsOfOne l.turns
