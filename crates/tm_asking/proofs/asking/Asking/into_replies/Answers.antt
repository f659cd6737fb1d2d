use Rattle.std.proofs.Common.{◌∙◌}
use Rattle.tm_asking.proofs.Replied.{replied_all, begun_all}
use Rattle.tm_asking.proofs.asking.Asking.into_replies.Goals as goal

pub returns-clause-replied : goal.returns-clause-replied
returns-clause-replied g c = λ missing was asked many is.
    let (openings, client) = c.requires.client in
    replied_all g.P.PairTable.theory.client_view openings missing was asked c.args.self.replies.items c.args.client.now.books client is c.requires.none (many ∙ c.requires.all)

pub returns-clause-begins : goal.returns-clause-begins
returns-clause-begins g c = λ missing was asked other more is.
    let (openings, client) = c.requires.client in
    begun_all g.P.PairTable.theory.client_view openings missing was asked c.args.self.replies.items other more c.args.client.now.books client is c.requires.none
