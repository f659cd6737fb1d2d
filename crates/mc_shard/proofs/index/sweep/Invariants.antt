use Rattle.std.proofs.Common.{◌≡◌, ℕ}
use Rattle.std.specs.BTreeSet.{btree_set_len}
use Rattle.mc_model.specs.Items.{live}
use Rattle.mc_shard.specs.Kept.{IsPaired}
use Rattle.mc_shard.proofs.index.sweep.Given as goal

abbrev pub invariant-loop-key : goal.invariant-loop-key
invariant-loop-key l = record {
  paired : IsPaired l.cache.entries l.index.keys;
  cap : l.cache.cap ≡ l.initial.cache.cap;
  swept : live l.now l.cache.entries ≡ live l.now l.initial.cache.entries;
}

abbrev pub decreases-loop-key : goal.decreases-loop-key
decreases-loop-key l = btree_set_len l.index
