use Rattle.std.proofs.Common.{refl}
use Rattle.bench_counters.proofs.Calling.{pushed}
use Rattle.bench_counters.proofs.asking.add.Goals as goal

pub returns : goal.returns
returns c =
    pushed c.args.batch.now c.push.new.self _ c.push.result refl c.requires c.push.ensures.ok c.push.ensures.err
