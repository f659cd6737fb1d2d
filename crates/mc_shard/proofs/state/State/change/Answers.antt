use Rattle.std.proofs.Common.{sym}
use Rattle.mc_shard.proofs.Outcomes.{change_refused, change_done}
use Rattle.mc_shard.proofs.state.State.change.Goals as goal

pub returns-in-Err-clause-ok : goal.returns-in-Err-clause-ok
returns-in-Err-clause-ok c =
    rw c.settle.ensures (change_refused c.args.self.now c.args.moment c.args.key.now c.args.up c.args.by c.in-Err.refusal (sym c.in-Err.ensures))

pub returns-clause-ok : goal.returns-clause-ok
returns-clause-ok c =
    rw (c.count_change.ensures, c.rewrite.ensures, c.in_ok-text.ensures, c.next_cas-cas.ensures, c.changed-after.ensures)
    (change_done c.args.self.now c.args.moment c.args.key.now c.args.up c.args.by c.in-Ok.number (sym c.in-Ok.ensures))
