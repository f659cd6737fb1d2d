use Rattle.std.proofs.Common.{◌∙◌, ◌<◌, length, refl, sym}
use Rattle.tm_latch.proofs.Latched.{sound_begin, sound_wait, queue_of_line, not_none, none_not}
use Rattle.tm_latch.proofs.latches.Latches.enter.Goals as goal

-- the ticket begins
pub invariant_of-self : goal.invariant_of-self
invariant_of-self g c =
    let few : length c.self.inside.known.items < c.self.inside.room = rw (← c.self.view_is) at c.requires in
    let none = sym (c.line_of.ensures c.self.invariant.lines c.self.invariant.table) ∙ c.in-None.is in
    rw c.after_enter-known.ensures
    (sound_begin _ _ _ _ _ c.self.invariant c.args.id _ _ c.args.ticket c.args.task none (c.add.ensures.adds c.self.invariant.lines c.self.invariant.table none) c.add.ensures.capacity c.add.ensures.buckets few)

-- the ticket waits
pub append-ends-requires-clause-queue : goal.append-ends-requires-clause-queue
append-ends-requires-clause-queue g c = queue_of_line _ _ _ _ _ c.self.invariant c.args.id c.in-Some.line (sym (c.line_of.ensures c.self.invariant.lines c.self.invariant.table) ∙ c.in-Some.is)

pub invariant_of-self-in-Some : goal.invariant_of-self-in-Some
invariant_of-self-in-Some g c =
    let few : length c.self.inside.known.items < c.self.inside.room = rw (← c.self.view_is) at c.requires in
    let there = sym (c.line_of.ensures c.self.invariant.lines c.self.invariant.table) ∙ c.in-Some.is in
    let put = c.append-ends.ensures in
    rw c.after_enter-known.ensures
    (sound_wait _ _ _ _ _ c.self.invariant c.args.id _ _ c.append-ends.new.cells c.args.ticket c.args.task c.in-Some.line c.append-ends.result there (c.set.ensures.sets c.self.invariant.lines c.self.invariant.table (rw there refl)) c.set.ensures.capacity c.set.ensures.buckets put.own put.others put.len put.capacity few)

-- each answer comes in its own case alone
pub returns-in-None-clause-waits : goal.returns-in-None-clause-waits
returns-in-None-clause-waits g c some = not_none _ _ _ _ _ c.self.invariant c.args.id (sym (c.line_of.ensures c.self.invariant.lines c.self.invariant.table) ∙ c.in-None.is) (rw (← c.self.view_is) at some) _

pub returns-in-Some-clause-runs : goal.returns-in-Some-clause-runs
returns-in-Some-clause-runs g c none = none_not _ _ _ _ _ c.self.invariant c.args.id c.in-Some.line (sym (c.line_of.ensures c.self.invariant.lines c.self.invariant.table) ∙ c.in-Some.is) (rw (← c.self.view_is) at none) _
