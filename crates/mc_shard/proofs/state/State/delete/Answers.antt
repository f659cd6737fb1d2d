use Rattle.std.proofs.Common.{sym}
use Rattle.mc_shard.proofs.Outcomes.{delete_none, delete_done}
use Rattle.mc_shard.proofs.state.State.delete.Goals as goal

pub returns-then-remove : goal.returns-then-remove
returns-then-remove c = rw c.remove.ensures.gone (delete_done c.args.self.now c.args.moment c.args.key.now (sym c.if-remove.ensures.there))

pub returns-else-remove : goal.returns-else-remove
returns-else-remove c = rw c.remove.ensures.gone (delete_none c.args.self.now c.args.moment c.args.key.now (sym c.if-remove.ensures.there))
