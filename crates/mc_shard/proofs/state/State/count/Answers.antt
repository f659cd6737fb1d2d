use Rattle.std.proofs.Common.{ap, ◌∙◌}
use Rattle.mc_model.specs.declared.reply.ShardReply.TheVariants.{Counts}
use Rattle.mc_model.specs.Items.{count_of}
use Rattle.mc_model.specs.Class.{Class, standing}
use Rattle.mc_shard.proofs.Outcomes.{count_done}
use Rattle.mc_shard.proofs.state.State.count.Goals as goal

pub returns : goal.returns
returns c =
    ap (λ held. (c.settle.new.self, Counts held c.self.inside.stored)) c.held.ensures
    ∙ ap (λ (s : Class). (c.settle.new.self, Counts (count_of (standing c.settle.new.self)) s.stored)) c.self.view_is
    ∙ ap (λ (s : Class). (s, Counts (count_of (standing s)) s.stored)) c.settle.ensures
    ∙ count_done c.args.self.now c.args.moment
