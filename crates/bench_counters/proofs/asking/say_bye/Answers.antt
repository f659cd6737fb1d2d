use Rattle.std.proofs.Common.{lit<, sym, subst}
use Rattle.tm_seq.specs.Counting.{counter_kind}
use Rattle.tm_model.specs.Orderly.{IsOrderly}
use Rattle.bench_counters.proofs.Counts.{last_bye}
use Rattle.bench_counters.proofs.asking.say_bye.Goals as goal

pub publish-requires : goal.publish-requires
publish-requires g c =
    let P = g.P.PairTable in
    let view = P.theory.client_view c.args.side.now in
    let opening = P.theory.opening c.args.table.now in
    let asked = c.requires.0 in
    let good = g.met.P.PairTable.laws.client_is_good c.args.table.now c.args.side.now asked.mine in (
      lit< tt,
      (
        lit< tt,
        (
          asked.mine,
          λ free.
              subst (λ b. IsOrderly opening view.place view.sent view.got b) (sym c.bye.ensures)
              (last_bye counter_kind opening view good c.requires.1 asked.sent),
        ),
      ),
    )
