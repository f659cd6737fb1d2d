use Rattle.tm_reference.proofs.Standing.{none_more, read_standing}
use Rattle.tm_reference.proofs.live.position.Goals as goal

pub returns-then-object-id : goal.returns-then-object-id
returns-then-object-id g c =
    read_standing c.args.id c.loop-at.at c.args.live.now _ c.requires c.loop-at.invariant c.loop-at-test.true c.index-live-at.is (cc)

pub loop-at-preserved : goal.loop-at-preserved
loop-at-preserved g c =
    none_more c.args.id c.loop-at.at c.args.live.now _ c.loop-at.invariant c.loop-at-test.true c.index-live-at.is (λ e. c.if-object-id.false (cc))
