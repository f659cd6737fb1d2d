use Rattle.std.proofs.Common.{refl}
use Rattle.tm_turns_tests.proofs.Launched.{built_some}
use Rattle.tm_turns_tests.proofs.tests.launching.start.Goals as goal

pub returns : goal.returns
returns c = built_some _ _ _ _ c.in-Ok.ensures.built refl
