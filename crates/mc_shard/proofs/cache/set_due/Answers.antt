use Rattle.mc_model.specs.Rows.{with_due}
use Rattle.mc_shard.proofs.CacheFacts.{written_as}
use Rattle.mc_shard.proofs.cache.set_due.Goals as goal

pub returns-in-Some-clause-put : goal.returns-in-Some-clause-put
returns-in-Some-clause-put c = written_as c.args.cache.now.entries c.args.key.now (with_due c.args.due) c.in-Some.item.now _ c.requires c.in-Some.ensures.value c.set_due.ensures
