use Rattle.std.proofs.Common.{lit<, sym, subst}
use Rattle.tm_model.specs.Orderly.{IsOrderly}
use Rattle.tm_pair.proofs.Nothing.{nothing_is_orderly}
use Rattle.tm_table_tests.proofs.tests.slots.asking.ask_gifts.Goals as goal

pub publish-requires : goal.publish-requires
publish-requires g c =
    let opening = g.P.PairTable.theory.opening c.args.table.now in
    let view = g.P.PairTable.theory.client_view c.args.side.now in
    let good = g.met.P.PairTable.laws.client_is_good c.args.table.now c.args.side.now c.requires.mine in (
      lit< tt,
      (
        lit< tt,
        (
          c.requires.mine,
          λ free. subst (λ b. IsOrderly opening view.place view.sent view.got b) (sym c.new.ensures.requests) (nothing_is_orderly _ opening view good),
        ),
      ),
    )
