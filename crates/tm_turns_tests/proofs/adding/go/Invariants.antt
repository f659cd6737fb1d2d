use Rattle.tm_turns_tests.specs.Adding.{IsOfOne}
use Rattle.tm_turns_tests.proofs.adding.go.Given as goal

abbrev pub invariant-loop : goal.invariant-loop
invariant-loop l = IsOfOne l.turns
