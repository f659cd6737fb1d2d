use Rattle.std.proofs.Common.{◌≡◌, ◌≤◌, length}
use Rattle.std.specs.List.{AllByRecursion}
use Rattle.tm_tests.specs.Launching.{IsWork}
use Rattle.tm_tests.proofs.tests.turns.launching.play.batch.Given as goal

abbrev pub invariant-loop-work : goal.invariant-loop-work
invariant-loop-work l = record {
  works : AllByRecursion IsWork l.batch.requests.items;
  size : length l.batch.requests.items ≤ l.work-index;
  room : l.batch.room ≡ 0;
}
