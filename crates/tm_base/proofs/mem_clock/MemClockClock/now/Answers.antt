use Rattle.std.proofs.Common.{drop, ap, ◌∙◌, arith}
use Rattle.tm_base.specs.Memory.{next_reading}
use Rattle.tm_base.proofs.Pieces.{one_further, rest_of}
use Rattle.tm_base.proofs.Readings.{read_once}
use Rattle.tm_base.proofs.mem_clock.MemClockClock.now.Goals as goal

pub returns-clause-state : goal.returns-clause-state
returns-clause-state c =
    let s = c.self.inside in
    let len = s.readings.ok.0 in
    rw (← c.self.view_is)
    (read_once s.so_far.items _ (drop s.at s.readings.items) _ s.last _ c.longer-self-inside.ensures
    (one_further s.at c.min-self-inside.result s.readings.items (omega (arith, len)) (omega (arith, len)))
    (c.first_or-reading.ensures ∙ ap (λ coming. next_reading coming s.last) (rest_of s.at s.readings.items c.deref.result.now c.deref.ensures.value)))
