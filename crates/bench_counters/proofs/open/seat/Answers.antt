use Rattle.bench_counters.proofs.Opening.{carried}
use Rattle.bench_counters.proofs.open.seat.Goals as goal

pub returns : goal.returns
returns c =
    let same = c.in_ok-handle.ensures in
    carried c.args.table.now c.in_ok-handle.handle c.args.side same
    (c.handles_share_sides.ensures.clients c.args.table.now c.in_ok-handle.handle c.args.side same c.requires.0.mine) c.requires
