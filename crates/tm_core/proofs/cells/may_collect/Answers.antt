use Rattle.tm_core.proofs.Telling.{tells_collect}
use Rattle.tm_core.proofs.cells.may_collect.Goals as goal

pub returns : goal.returns
returns c = tells_collect c.args.cells.now c.args.client
