use Rattle.std.proofs.Common.{ap, ◌∙◌}
use Rattle.mc_shard.proofs.CacheFacts.{entry_item, entry_key, remove_entry-without}
use Rattle.mc_shard.proofs.cache.take_out.Goals as goal

pub returns-clause-item : goal.returns-clause-item
returns-clause-item c = rw c.pop_entry.ensures.value (entry_item c.args.cache.now.entries c.args.key.now)

pub returns-clause-key : goal.returns-clause-key
returns-clause-key c = rw c.pop_entry.ensures.value (entry_key c.args.cache.now.entries c.args.key.now)

pub returns-clause-loses : goal.returns-clause-loses
returns-clause-loses c = ap (λ l. l.entries) c.pop_entry.ensures.entries ∙ remove_entry-without c.args.cache.now.entries c.args.key.now c.requires
