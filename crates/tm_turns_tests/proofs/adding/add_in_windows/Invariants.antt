use Rattle.tm_turns_tests.specs.Adding.{IsOfOne}
use Rattle.tm_turns_tests.proofs.adding.add_in_windows.Given as goal

abbrev pub invariant-loop-2 : goal.invariant-loop-2
invariant-loop-2 l = IsOfOne l.turns

abbrev pub invariant-loop : goal.invariant-loop
invariant-loop l = IsOfOne l.turns
