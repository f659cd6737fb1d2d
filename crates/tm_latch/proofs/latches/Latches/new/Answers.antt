use Rattle.tm_latch.proofs.Latched.{sound_none}
use Rattle.tm_latch.proofs.latches.Latches.new.Goals as goal

pub invariant_of-result : goal.invariant_of-result
invariant_of-result g c =
    sound_none _ _ _ _ _ c.in_ok-new.ensures.none c.in_ok-with_capacity.ensures.empty c.new-2.ensures c.in_ok-new.ensures.buckets c.in_ok-new.ensures.room c.in_ok-with_capacity.ensures.capacity
