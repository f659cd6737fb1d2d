use Rattle.bench_counters.proofs.Opening.{buildable}
use Rattle.bench_counters.proofs.open.table.Goals as goal

pub new-requires-clause-buildable : goal.new-requires-clause-buildable
new-requires-clause-buildable c =
    rw (c.config.ensures, c.in_ok-first.ensures) (buildable c.args.clients c.requires.some c.requires.few)
