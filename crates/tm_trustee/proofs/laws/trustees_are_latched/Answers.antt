use Rattle.tm_trustee.proofs.Tying.{are_latched}
use Rattle.tm_trustee.proofs.laws.trustees_are_latched.Goals as goal

pub returns : goal.returns
returns g c = are_latched g.P.PairTable.theory g.S.Entrusted.kind g.met.P.PairTable.laws
