use Rattle.std.proofs.Common.{◌≡◌, []}
use Rattle.std.specs.declared.option.Option.TheVariants.{None}
use Rattle.tm_seq.specs.Counting.{counter_kind}
use Rattle.tm_pair.specs.Views.{hand_of}
use Rattle.tm_toggle.specs.Shared.{opening_at, trustee_at, IsTrusteeOf, IsSame}
use Rattle.tm_table_tests.specs.Trying.{trying}
use Rattle.tm_table_tests.proofs.tests.sharing.answer.Given as goal

abbrev pub invariant-loop : goal.invariant-loop
invariant-loop g l = record {
  opens : opening_at l.table ≡ trying;
  mine : IsTrusteeOf counter_kind l.table l.side;
  free : hand_of (trustee_at l.side) 0 ≡ None;
  log : (trustee_at l.side).log ≡ [];
  same : IsSame l.fn.owner.0 l.table;
}
