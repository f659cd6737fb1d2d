use Rattle.tm_latch.specs.Tickets.{ticket_for}
use Rattle.tm_latch.proofs.Chains.{append_has, append_others, append_own, append_first_others, queue_one}
use Rattle.tm_latch.proofs.queues.append.Goals as goal

pub index_mut-requires : goal.index_mut-requires
index_mut-requires g c =
    let at = c.insert_reserved-key.ensures in
    append_has c.args.id c.insert_reserved-key.result (ticket_for c.args.id c.args.number c.args.task) _ _ at.was_vacant at.updates c.in-Some.ends (rw c.in-Some.is at c.requires.queue)

pub returns-in-Some-clause-own : goal.returns-in-Some-clause-own
returns-in-Some-clause-own g c =
    let at = c.insert_reserved-key.ensures in
    rw c.in-Some.is
    (append_own c.args.id c.insert_reserved-key.result (ticket_for c.args.id c.args.number c.args.task) _ _ at.was_vacant at.updates c.in-Some.ends (rw c.in-Some.is at c.requires.queue) c.index_mut.result.now c.index_mut.ensures.value)

pub returns-in-Some-clause-others : goal.returns-in-Some-clause-others
returns-in-Some-clause-others g c =
    let at = c.insert_reserved-key.ensures in
    append_others c.args.id c.insert_reserved-key.result (ticket_for c.args.id c.args.number c.args.task) _ _ at.was_vacant at.updates c.in-Some.ends (rw c.in-Some.is at c.requires.queue) c.index_mut.result.now c.index_mut.ensures.value

pub returns-in-None-clause-own : goal.returns-in-None-clause-own
returns-in-None-clause-own g c tickets q =
    let at = c.insert_reserved-key.ensures in
    queue_one _ c.insert_reserved-key.result (ticket_for c.args.id c.args.number c.args.task) _ tickets at.updates.changed (rw c.in-None.is at q)

pub returns-in-None-clause-others : goal.returns-in-None-clause-others
returns-in-None-clause-others g c =
    let at = c.insert_reserved-key.ensures in
    append_first_others c.args.id c.insert_reserved-key.result (ticket_for c.args.id c.args.number c.args.task) _ _ at.was_vacant at.updates
