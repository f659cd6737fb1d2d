use Rattle.tm_trustee.proofs.Noting as noting
use Rattle.tm_trustee.proofs.tasks.next_at.Goals as goal

pub next_reply-requires : goal.next_reply-requires
next_reply-requires g c =
    noting.enough c.args.i c.args.lanes.now.items c.index_mut.result.now c.requires.index c.index_mut.ensures.value c.requires.askers

pub returns-clause-none : goal.returns-clause-none
returns-clause-none g c =
    noting.next_none c.args.i c.args.lanes.now.items c.index_mut.result.now c.requires.index c.index_mut.ensures.value c.next_reply.result
    c.next_reply.ensures.none

pub returns-clause-same : goal.returns-clause-same
returns-clause-same g c =
    noting.next_same c.args.i c.args.lanes.now.items c.index_mut.result.now c.requires.index c.index_mut.ensures.value c.next_reply.result
    c.next_reply.new.self c.next_reply.ensures.same

pub returns-clause-takes : goal.returns-clause-takes
returns-clause-takes g c =
    noting.next_takes c.args.i c.args.lanes.now.items c.index_mut.result.now c.requires.index c.index_mut.ensures.value c.next_reply.result
    c.next_reply.new.self c.next_reply.ensures.takes
