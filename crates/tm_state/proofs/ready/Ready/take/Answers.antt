use Rattle.std.proofs.Common.{◌<◌, drop, length, ap, arith}
use Rattle.std.proofs.lemmas.List.{length-map}
use Rattle.tm_state.proofs.ReadyQueues.{rooms-set, ready-set}
use Rattle.tm_state.proofs.ready.Ready.take.Goals as goal

pub invariant_of-self : goal.invariant_of-self
invariant_of-self g c =
    let within : c.args.place < length c.self.inside.queues.items = let l = length-map c.self.inside.queues.items (λ q. q.items) in let e = ap (λ qs. length qs) c.self.view_is in omega (arith, l, e, c.requires) in
    rooms-set c.self.inside.queues.items c.args.place c.index_mut.result.now c.pop_front.new.self within c.index_mut.ensures.value (ap (λ q. q.capacity) c.pop_front.ensures.items) c.self.invariant

pub returns-clause-taken : goal.returns-clause-taken
returns-clause-taken g c =
    let within : c.args.place < length c.self.inside.queues.items = let l = length-map c.self.inside.queues.items (λ q. q.items) in let e = ap (λ qs. length qs) c.self.view_is in omega (arith, l, e, c.requires) in
    ready-set c.self.inside.queues.items c.args.self.now c.args.place c.index_mut.result.now c.pop_front.new.self (drop 1) c.self.view_is within c.index_mut.ensures.value (ap (λ q. q.items) c.pop_front.ensures.items)
