use Rattle.tm_asking.proofs.Replied.{begun_so_far}
use Rattle.tm_asking.proofs.asking.Asking.so_far.Goals as goal

pub returns : goal.returns
returns g c = λ missing was asked is.
    begun_so_far g.P.PairTable.theory.client_view missing was asked c.args.self.now.replies.items c.args.client.now.books is
