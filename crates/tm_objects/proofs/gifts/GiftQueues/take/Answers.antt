use Rattle.std.proofs.Common.{◌≡◌, ◌<◌, List, length, set, drop, ap, ◌∙◌, arith, length-drop}
use Rattle.std.specs.Prelude.{map}
use Rattle.std.proofs.lemmas.List.{length-map}
use Rattle.circular_buffer.specs.Buffer.{Buffer}
use Rattle.tm_batch.specs.declared.message.Name.{Name}
use Rattle.tm_objects.specs.Stock.{gifts_of}
use Rattle.tm_objects.proofs.Queues.{few-set, few_at, rooms-set, waiting-set, room_at, waiting_at}
use Rattle.tm_objects.proofs.gifts.GiftQueues.take.Goals as goal

pub invariant_of-self : goal.invariant_of-self
invariant_of-self c =
    let within : c.args.place < length c.self.inside.queues.items = let l = length-map c.self.inside.queues.items (λ (q : Buffer Name). q.items) in let e = ap (λ (qs : List (List Name)). length qs) c.self.view_is in omega (arith, l, e, c.requires) in
    let b = c.index_mut.result.now in
    let room = room_at c.self.inside.queues.items c.args.place b within c.index_mut.ensures.value c.self.invariant.0 in
    let waits : b.items ≡ gifts_of c.args.self.now c.args.place = waiting_at c.self.inside.queues.items c.args.place b within c.index_mut.ensures.value ∙ ap (λ (qs : List (List Name)). gifts_of qs c.args.place) c.self.view_is in (
      rooms-set c.self.inside.queues.items c.args.place c.pop_front.new.self (ap (λ (q : Buffer Name). q.capacity) (c.pop_front.ensures.items) ∙ room) c.self.invariant.0,
      few-set c.self.inside.queues.items c.args.place c.pop_front.new.self (rw (ap (λ (q : Buffer Name). q.items) c.pop_front.ensures.items) (omega (arith, length-drop 1 b.items, ap (λ (xs : List Name). length xs) (waiting_at c.self.inside.queues.items c.args.place b within c.index_mut.ensures.value), few_at c.self.inside.queues.items c.args.place within c.self.invariant.1))) c.self.invariant.1,
    )

pub returns-clause-taken : goal.returns-clause-taken
returns-clause-taken c =
    let within : c.args.place < length c.self.inside.queues.items = let l = length-map c.self.inside.queues.items (λ (q : Buffer Name). q.items) in let e = ap (λ (qs : List (List Name)). length qs) c.self.view_is in omega (arith, l, e, c.requires) in
    let b = c.index_mut.result.now in
    let room = room_at c.self.inside.queues.items c.args.place b within c.index_mut.ensures.value c.self.invariant.0 in
    let waits : b.items ≡ gifts_of c.args.self.now c.args.place = waiting_at c.self.inside.queues.items c.args.place b within c.index_mut.ensures.value ∙ ap (λ (qs : List (List Name)). gifts_of qs c.args.place) c.self.view_is in
    waiting-set c.self.inside.queues.items c.args.place c.pop_front.new.self
    ∙ (ap (λ (xs : List Name). set (map (λ (q : Buffer Name). q.items) c.self.inside.queues.items) c.args.place xs) (ap (λ (q : Buffer Name). q.items) (c.pop_front.ensures.items) ∙ ap (λ (xs : List Name). drop 1 xs) waits)
    ∙ ap (λ (qs : List (List Name)). set qs c.args.place (drop 1 (gifts_of c.args.self.now c.args.place))) c.self.view_is)
