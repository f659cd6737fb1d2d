use Rattle.mc_shard.proofs.IndexFacts.{ahead_of}
use Rattle.mc_shard.proofs.index.is_ripe.Goals as goal

pub returns-in-Some-clause-ahead : goal.returns-in-Some-clause-ahead
returns-in-Some-clause-ahead c = λ early. ahead_of c.args.now c.args.index.now.keys c.in-Some.field-0.now early c.in-Some.ensures.least
