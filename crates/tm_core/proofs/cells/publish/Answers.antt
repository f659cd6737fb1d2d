use Rattle.std.proofs.Common.{ap, slice_index_or}
use Rattle.tm_core.proofs.Showing.{publishes, stays}
use Rattle.tm_core.proofs.cells.publish.Goals as goal

pub returns-in-Ok-clause-ok : goal.returns-in-Ok-clause-ok
returns-in-Ok-clause-ok c =
    let e = c.in-Ok.ensures in
    publishes c.args.cells.now c.args.client _ _ c.requires (ap (slice_index_or c.args.cells.now c.args.client) c.index-cells-client.is) c.args.requests
    e.request e.response e.content e.sent e.ran

pub returns-in-Err-clause-err : goal.returns-in-Err-clause-err
returns-in-Err-clause-err c =
    let e = c.in-Err.ensures in
    stays c.args.cells.now c.args.client _ _ c.requires (ap (slice_index_or c.args.cells.now c.args.client) c.index-cells-client.is) e.err.0 e.err.1
