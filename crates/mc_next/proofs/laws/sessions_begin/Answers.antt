use Rattle.mc_next.proofs.Begun.{begins}
use Rattle.std.proofs.Common.{subst, sym, ◌∙◌}
use Rattle.mc_next.specs.Sessions.{IsFresh}
use Rattle.mc_model.specs.declared.reply.ShardReply.TheVariants.{Missing}
use Rattle.mc_next.proofs.laws.sessions_begin.Goals as goal

pub returns : goal.returns
returns g c = λ s left readings written limit.
    let (l, fresh) = c.requires.fresh in
    begins g.P.PairTable.theory.client_view s c.args.session.now
    (subst (λ n. IsFresh n c.args.session.now) (sym (limit ∙ fresh.limit_is)) fresh)
    c.args.client.now.books left readings written (c.may_begin.ensures Missing) c.requires.none
