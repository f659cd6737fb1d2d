use Rattle.std.proofs.lemmas.Result.{on_ok_weaker}
use Rattle.mc_shard.specs.Kept.{appended}
use Rattle.mc_shard.proofs.Settled.{found_there, change_class}
use Rattle.mc_shard.proofs.state.State.append.Goals as goal

pub append-requires-clause-there : goal.append-requires-clause-there
append-requires-clause-there c =
    let i = c.self.inside in
    found_there i.class i.items i.changes i.stored i.pending c.args.moment c.latest-now.result c.args.key.now
    (rw (← c.self.view_is) at c.latest-now.ensures.is) (rw (← c.self.view_is) at c.requires)

pub returns-clause-ok : goal.returns-clause-ok
returns-clause-ok c =
    let i = c.self.inside in
    on_ok_weaker c.append.result (λ e. rw (← c.self.view_is) (change_class i.class i.items i.changes i.stored i.pending (appended c.args.more.now c.args.cas) c.append.new.self c.args.moment c.latest-now.result c.args.key.now
    (rw (← c.self.view_is) at c.latest-now.ensures.is) (rw (← c.self.view_is) at c.requires) e)) c.append.ensures.ok
