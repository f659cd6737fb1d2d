use Rattle.mc_model.specs.declared.reply.ShardReply.TheVariants.{Missing}
use Rattle.mc_next.proofs.work.Work.show.Goals as goal

pub returns : goal.returns
returns g c = (c.into_replies-replies.result.items, λ was asked many is. (c.into_replies-replies.ensures.replied Missing was asked many is, λ more. c.into_replies-replies.ensures.begins Missing was asked Missing more is), c.join.ensures)
