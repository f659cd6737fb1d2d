use Rattle.std.proofs.Common.{sym, subst}
use Rattle.tm_model.specs.Opening.{IsBuildable}
use Rattle.tm_tests.specs.Launching.{three}
use Rattle.tm_tests.proofs.LaunchingFirst.{three_buildable}
use Rattle.tm_tests.proofs.tests.turns.launching.start.table.Goals as goal

pub new-requires-clause-buildable : goal.new-requires-clause-buildable
new-requires-clause-buildable c = subst (λ l. IsBuildable three l) (sym c.in_ok-two_counters.ensures) three_buildable
