use Rattle.std.proofs.Common.{sym}
use Rattle.mc_shard.proofs.Settled.{found_due}
use Rattle.mc_shard.proofs.state.State.found.Goals as goal

pub returns-then-is_flush_due : goal.returns-then-is_flush_due
returns-then-is_flush_due c =
    sym (found_due c.args.self.now c.args.moment c.latest-now.result c.args.key.now c.latest-now.ensures.is (sym c.if-is_flush_due.ensures))
