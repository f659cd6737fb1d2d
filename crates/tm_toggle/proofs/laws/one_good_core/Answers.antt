use Rattle.tm_toggle.specs.Ruled.{opening_by}
use Rattle.tm_toggle.proofs.Showing.{shows}
use Rattle.tm_toggle.proofs.laws.one_good_core.Goals as goal

pub returns : goal.returns
returns g c = λ key s rule. shows g.S.Entrusted.kind (opening_by key) s rule
