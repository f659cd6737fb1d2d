use Rattle.bench_counters.proofs.Orders.{one_more_at}
use Rattle.bench_counters.proofs.asking.last_of.Goals as goal

pub loop-at-preserved : goal.loop-at-preserved
loop-at-preserved c =
    one_more_at c.args.before c.loop-at.at c.loop-at.last c.in_ok-last.last c.args.answers.now _ c.loop-at-test.true c.loop-at.invariant c.in_ok-last.ensures
