use Rattle.std.proofs.Common.{sym, subst}
use Rattle.tm_model.specs.Opening.{IsBuildable}
use Rattle.tm_table_tests.specs.Sample.{sample_config}
use Rattle.tm_table_tests.proofs.Sampling.{sample_buildable}
use Rattle.tm_table_tests.proofs.tests.meeting.plain.Goals as goal

pub new-requires-clause-buildable : goal.new-requires-clause-buildable
new-requires-clause-buildable c = subst (λ l. IsBuildable sample_config l) (sym c.in_ok-first.ensures) (sample_buildable _)
