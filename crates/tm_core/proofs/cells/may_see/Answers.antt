use Rattle.tm_core.proofs.Telling.{tells_see}
use Rattle.tm_core.proofs.cells.may_see.Goals as goal

pub returns : goal.returns
returns c = tells_see c.args.cells.now c.args.client
