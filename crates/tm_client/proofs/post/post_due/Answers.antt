use Rattle.std.proofs.Common.{sym, subst}
use Rattle.tm_pair.specs.Calls.{MaySend}
use Rattle.tm_client.proofs.Leaving.{left_may_go}
use Rattle.tm_client.proofs.post.post_due.Goals as goal

pub post-requires : goal.post-requires
post-requires g c =
    let left = c.in-Some.ensures.due in
    let theory = g.P.PairTable.theory in
    let good = g.met.P.PairTable.laws.client_is_good c.args.table.now c.args.lane.now.side c.requires.mine in
    let (place, n, was) = c.requires.lane in (
      g.met.S.FitsBatches.fits_batch,
      (
        subst (λ s. theory.HasClient c.args.table.now s) (sym left.side) c.requires.mine,
        (
          rw left.side c.requires.free,
          subst (λ s. MaySend (theory.opening c.args.table.now) (theory.client_view s) c.in-Some.batch.requests.items) (sym left.side)
              (left_may_go g.S.Entrusted.kind theory.client_view (theory.opening c.args.table.now) place n c.args.lane.now was good
              c.in-Some.batch.requests.items c.take_due.new.self left.leaves),
        ),
      ),
    )
