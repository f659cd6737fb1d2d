use Rattle.std.proofs.Common.{sym, subst}
use Rattle.tm_model.specs.Opening.{IsBuildable}
use Rattle.tm_tests.specs.Driving.{small}
use Rattle.tm_tests.proofs.DrivenFirst.{small_buildable}
use Rattle.tm_tests.proofs.tests.turns.start.low.Goals as goal

pub new-requires-clause-buildable : goal.new-requires-clause-buildable
new-requires-clause-buildable c = subst (λ l. IsBuildable small l) (sym c.in_ok-one_counter.ensures) small_buildable
