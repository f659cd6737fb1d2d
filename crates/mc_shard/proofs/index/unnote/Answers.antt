use Rattle.std.proofs.Common.{sym}
use Rattle.mc_shard.proofs.IndexFacts.{loses_removed}
use Rattle.mc_shard.proofs.index.unnote.Goals as goal

pub returns-clause-gone : goal.returns-clause-gone
returns-clause-gone c =
    rw c.in-At.is (loses_removed c.args.index.now.keys c.remove.new.self.keys c.in-At.moment c.args.key c.args.due (sym c.if-not-goes_at.ensures) c.remove.ensures.updates.0)
