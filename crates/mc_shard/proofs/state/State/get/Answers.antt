use Rattle.std.proofs.Common.{sym, ◌∙◌}
use Rattle.mc_shard.proofs.Outcomes.{get_missing, get_done, missing_of, there_of}
use Rattle.mc_shard.proofs.state.State.get.Goals as goal

pub returns-in_default-clause-ok : goal.returns-in_default-clause-ok
returns-in_default-clause-ok c =
    rw c.settle.ensures (get_missing c.args.self.now c.args.moment c.args.key.now (missing_of _ (sym c.in_default.is ∙ c.in_ok-reply.ensures)))

pub use_item-requires : goal.use_item-requires
use_item-requires c = there_of _ c.in-Some.reply (sym c.in-Some.is ∙ c.in_ok-reply.ensures)

pub returns-clause-ok : goal.returns-clause-ok
returns-clause-ok c = rw c.use_item.ensures (get_done c.args.self.now c.args.moment c.args.key.now c.in-Some.reply (sym c.in-Some.is ∙ c.in_ok-reply.ensures))
