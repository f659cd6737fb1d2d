use Rattle.std.proofs.Common.{ap, slice_index_or}
use Rattle.tm_core.proofs.Showing.{sees}
use Rattle.tm_core.proofs.cells.see.Goals as goal

pub returns : goal.returns
returns c =
    sees c.args.cells.now c.args.client _ _ c.requires (ap (slice_index_or c.args.cells.now c.args.client) c.index-cells-client.is) c.see.ensures.content
    c.see.ensures.rest
