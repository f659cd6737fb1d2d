use Rattle.tm_seq.specs.Counting.{counter_kind}
use Rattle.tm_toggle.specs.Shared.{IsClientOf, IsSame}
use Rattle.tm_table_tests.proofs.tests.sharing.ask.Given as goal

abbrev pub invariant-loop : goal.invariant-loop
invariant-loop g l = record {
  mine : IsClientOf counter_kind l.table l.side;
  same : IsSame l.fn.client.0 l.table;
}
