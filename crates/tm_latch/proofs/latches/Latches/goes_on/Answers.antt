use Rattle.tm_latch.proofs.Latched.{sound_on}
use Rattle.tm_latch.proofs.latches.Latches.goes_on.Goals as goal

pub invariant_of-self : goal.invariant_of-self
invariant_of-self g c = rw c.after_goes_on-self-inside.ensures (sound_on _ _ _ _ _ c.self.invariant c.args.id c.args.task.now)
