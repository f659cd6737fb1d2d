use Rattle.std.proofs.Common.{ap, subst, sym, ◌∙◌}
use Rattle.mc_shard.specs.Kept.{IsPaired, LosesEntry, due_of}
use Rattle.mc_shard.proofs.CacheFacts.{without-none}
use Rattle.mc_shard.proofs.IndexFacts.{paired_without}
use Rattle.mc_item.specs.declared.expiry.Expiry.TheVariants.{Never}
use Rattle.mc_shard.proofs.items.take.Goals as goal

pub returns-in_err-key-clause-paired : goal.returns-in_err-key-clause-paired
returns-in_err-key-clause-paired c =
    let es = c.args.cache.now.entries in
    subst (λ l. IsPaired l c.args.index.now.keys) (sym (c.take_out.ensures.loses ∙ without-none es c.args.key.now (sym c.in_err-key.ensures.item))) c.requires

pub returns-clause-paired : goal.returns-clause-paired
returns-clause-paired c =
    let es = c.args.cache.now.entries in
    let k = c.unnote-key.new.index.keys in
    subst (λ l. IsPaired l k) (sym c.take_out.ensures.loses)
    (paired_without es c.args.index.now.keys k c.args.key.now c.in_ok-key.item.due c.requires (ap due_of c.in_ok-key.ensures.item)
    (subst (λ x. LosesEntry c.args.index.now.keys k c.in_ok-key.item.due Never x) c.in_ok-key.ensures.key (subst (λ due. LosesEntry c.args.index.now.keys k due Never c.in_ok-key.key) c.due-due.ensures c.unnote-key.ensures.gone)))
