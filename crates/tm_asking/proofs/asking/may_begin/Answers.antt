use Rattle.tm_asking.proofs.Begins.{begins}
use Rattle.tm_asking.proofs.asking.may_begin.Goals as goal

pub returns : goal.returns
returns g c = λ missing replies.
    let (openings, home) = c.requires.home in
    begins g.P.PairTable.theory g.S.Entrusted.kind g.met.P.PairTable.laws openings c.args.tables.now c.args.client.now.books home c.requires.none c.requires.open missing replies
