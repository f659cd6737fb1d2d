use Rattle.tm_build.proofs.Dealt.{none_more}
use Rattle.tm_build.proofs.dealing.empty_lists.Goals as goal

pub loop-preserved : goal.loop-preserved
loop-preserved g c = none_more c.loop.lists.items c.push.new.self.items c.new.result (λ l. l.items) c.loop.counter c.in_ok-push.ensures.items c.new.ensures.items c.loop.invariant
