use Rattle.tm_trustee.proofs.Tying.{are_tied}
use Rattle.tm_trustee.proofs.laws.trustees_are_tied.Goals as goal

pub returns : goal.returns
returns g c = are_tied g.P.PairTable.theory g.S.Entrusted.kind g.met.P.PairTable.laws
