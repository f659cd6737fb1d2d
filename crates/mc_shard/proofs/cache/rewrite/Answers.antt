use Rattle.mc_model.specs.Rows.{with_value}
use Rattle.mc_shard.proofs.CacheFacts.{written_as}
use Rattle.mc_shard.proofs.cache.rewrite.Goals as goal

pub returns-in-Some-clause-put : goal.returns-in-Some-clause-put
returns-in-Some-clause-put c = written_as c.args.cache.now.entries c.args.key.now (with_value c.args.value c.args.cas) c.in-Some.item.now _ c.requires c.in-Some.ensures.value c.set_value.ensures
