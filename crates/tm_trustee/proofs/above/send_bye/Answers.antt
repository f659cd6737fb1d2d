use Rattle.std.proofs.Common.{arith}
use Rattle.std.proofs.lemmas.Grind.{common_steps}
use Rattle.tm_trustee.proofs.AboveBye as bye
use Rattle.tm_trustee.proofs.above.send_bye.Goals as goal

pub publish-requires : goal.publish-requires
publish-requires g c =
    let theory = g.P.PairTable.theory in
    let good = g.met.P.PairTable.laws.client_is_good c.args.table.now c.args.seat.now c.requires.mine in
    let is = bye.one_bye c.new-batch.result.requests.items c.push.new.self.requests.items c.push.result c.new-batch.ensures.requests
    c.push.ensures.free.1 c.push.ensures.ok in (
      g.met.S.FitsBatches.fits_batch,
      (
        grind (arith, common_steps, g.met.S.FitsBatches.fits_held),
        (
          c.requires.mine,
          bye.bye_is_orderly g.S.Entrusted.kind (theory.opening c.args.table.now) (theory.client_view c.args.seat.now) good c.requires.asked c.requires.free
              c.requires.unsaid c.push.new.self.requests.items is,
        ),
      ),
    )
