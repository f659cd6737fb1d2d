use Rattle.std.proofs.Common.{refl, ap}
use Rattle.mc_shard.proofs.CacheFacts.{used_first}
use Rattle.mc_shard.proofs.cache.use_item.Goals as goal

pub returns-clause-used : goal.returns-clause-used
returns-clause-used c = used_first c.args.cache.now.entries _ c.args.key.now _ c.requires refl (ap (λ l. l.entries) c.promote.ensures.entries)
