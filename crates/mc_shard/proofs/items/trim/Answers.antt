use Rattle.std.proofs.Common.{subst, sym, ◌∙◌}
use Rattle.mc_item.specs.declared.expiry.Expiry.TheVariants.{Never}
use Rattle.mc_shard.specs.Kept.{IsPaired, LosesEntry}
use Rattle.mc_shard.proofs.PutFacts.{paired_last, paired_no_last}
use Rattle.mc_shard.proofs.items.trim.Goals as goal

pub returns-in-Some-clause-paired : goal.returns-in-Some-clause-paired
returns-in-Some-clause-paired c =
    let is = c.take_last.ensures.entries in
    subst (λ l. IsPaired l c.unnote.new.index.keys) (sym is)
    (paired_last c.args.cache.now.entries c.args.index.now.keys c.unnote.new.index.keys (c.in-Some.key, c.in-Some.item) c.requires.paired c.in-Some.ensures.last (subst (λ due. LosesEntry c.args.index.now.keys c.unnote.new.index.keys due Never c.in-Some.key) c.due-due.ensures c.unnote.ensures.gone))

pub returns-in_default-clause-paired : goal.returns-in_default-clause-paired
returns-in_default-clause-paired c =
    let is = c.take_last.ensures.entries in
    subst (λ l. IsPaired l c.args.index.now.keys) (sym is)
    (paired_no_last c.args.cache.now.entries c.args.index.now.keys c.requires.paired (sym c.in_default.is ∙ c.take_last.ensures.last))
