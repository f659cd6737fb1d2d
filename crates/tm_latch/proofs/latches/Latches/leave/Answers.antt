use Rattle.std.proofs.Common.{◌∙◌, refl, sym}
use Rattle.tm_latch.proofs.Latched.{sound_end, sound_next, none_next, some_next, queue_of_line, not_none}
use Rattle.tm_latch.proofs.latches.Latches.leave.Goals as goal

pub unreachable-requires : goal.unreachable-requires
unreachable-requires g c = not_none _ _ _ _ _ c.self.invariant c.args.id (sym (c.line_of.ensures c.self.invariant.lines c.self.invariant.table) ∙ c.in_default.is) (rw (← c.self.view_is) at c.requires) _

-- no other ticket waits
pub invariant_of-self : goal.invariant_of-self
invariant_of-self g c =
    let there = sym (c.line_of.ensures c.self.invariant.lines c.self.invariant.table) ∙ c.in-Some.is in
    rw c.after_leave-self-inside.ensures
    (sound_end _ _ _ _ _ c.self.invariant c.args.id _ _ c.in-Some.line there c.in_default-queue.is (c.remove.ensures.loses c.self.invariant.lines c.self.invariant.table (rw there refl)) c.remove.ensures.capacity c.remove.ensures.buckets)

pub returns-in_default-queue-clause-next : goal.returns-in_default-queue-clause-next
returns-in_default-queue-clause-next g c =
    rw (c.after_leave-self-inside.ensures, none_next _ _ _ _ _ c.self.invariant c.args.id c.in-Some.line (sym (c.line_of.ensures c.self.invariant.lines c.self.invariant.table) ∙ c.in-Some.is) c.in_default-queue.is) refl

-- the one that waits longest runs
pub take_first-ticket-requires : goal.take_first-ticket-requires
take_first-ticket-requires g c =
    let queue = queue_of_line _ _ _ _ _ c.self.invariant c.args.id c.in-Some.line (sym (c.line_of.ensures c.self.invariant.lines c.self.invariant.table) ∙ c.in-Some.is) in
    (c.args.id, rw c.in-Some-queue.is at queue)

pub invariant_of-self-2 : goal.invariant_of-self-2
invariant_of-self-2 g c =
    let took = c.take_first-ticket.ensures in
    let there = sym (c.line_of.ensures c.self.invariant.lines c.self.invariant.table) ∙ c.in-Some.is in
    let queue = queue_of_line _ _ _ _ _ c.self.invariant c.args.id c.in-Some.line there in
    rw c.after_leave-self-inside.ensures
    (sound_next _ _ _ _ _ c.self.invariant c.args.id c.in-Some.line c.in-Some-queue.ends there c.in-Some-queue.is _ _ c.take_first-ticket.new.cells c.take_first-ticket.result.0 c.take_first-ticket.result.1 c.take_first-ticket.result.2 (c.set.ensures.sets c.self.invariant.lines c.self.invariant.table (rw there refl)) c.set.ensures.capacity c.set.ensures.buckets took.own (took.others c.args.id (rw c.in-Some-queue.is at queue)) took.len took.capacity)

pub returns-clause-next : goal.returns-clause-next
returns-clause-next g c =
    rw c.after_leave-self-inside.ensures
    (some_next _ _ _ _ _ c.self.invariant c.args.id c.in-Some.line c.in-Some-queue.ends (sym (c.line_of.ensures c.self.invariant.lines c.self.invariant.table) ∙ c.in-Some.is) c.in-Some-queue.is c.take_first-ticket.new.cells c.take_first-ticket.result.0 c.take_first-ticket.result.1 c.take_first-ticket.result.2 c.take_first-ticket.ensures.own)
