use Rattle.std.proofs.Common.{ap, slice_index_or}
use Rattle.tm_core.proofs.Showing.{collects}
use Rattle.tm_core.proofs.cells.collect.Goals as goal

pub returns : goal.returns
returns c =
    collects c.args.cells.now c.args.client _ _ c.requires (ap (slice_index_or c.args.cells.now c.args.client) c.index-cells-client.is)
    c.collect.ensures.content c.collect.ensures.rest
