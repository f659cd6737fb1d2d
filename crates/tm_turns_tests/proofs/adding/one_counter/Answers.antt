use Rattle.std.proofs.Common.{refl}
use Rattle.tm_turns_tests.proofs.Ones.{built_one}
use Rattle.tm_turns_tests.proofs.adding.one_counter.Goals as goal

pub returns : goal.returns
returns c = built_one _ _ _ _ c.in-Ok.ensures.built refl refl
