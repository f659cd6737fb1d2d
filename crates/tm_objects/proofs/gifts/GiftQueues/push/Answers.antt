use Rattle.std.proofs.Common.{◌≡◌, ◌<◌, List, [], ◌∷◌, ◌++◌, length, set, ap, ◌∙◌, arith, length-append}
use Rattle.std.specs.Prelude.{map}
use Rattle.std.proofs.lemmas.List.{length-map}
use Rattle.circular_buffer.specs.Buffer.{Buffer}
use Rattle.tm_batch.specs.declared.message.Name.{Name}
use Rattle.tm_objects.specs.Stock.{gifts_of}
use Rattle.tm_objects.proofs.Queues.{few-set, on_ok, rooms-set, waiting-set, room_at, waiting_at}
use Rattle.tm_objects.proofs.gifts.GiftQueues.push.Goals as goal

pub invariant_of-self : goal.invariant_of-self
invariant_of-self c =
    let within : c.args.place < length c.self.inside.queues.items = let l = length-map c.self.inside.queues.items (λ (q : Buffer Name). q.items) in let e = ap (λ (qs : List (List Name)). length qs) c.self.view_is in omega (arith, l, e, c.requires.place) in
    let b = c.index_mut.result.now in
    let room = room_at c.self.inside.queues.items c.args.place b within c.index_mut.ensures.value c.self.invariant.0 in
    let waits : b.items ≡ gifts_of c.args.self.now c.args.place = waiting_at c.self.inside.queues.items c.args.place b within c.index_mut.ensures.value ∙ ap (λ (qs : List (List Name)). gifts_of qs c.args.place) c.self.view_is in (
      rooms-set c.self.inside.queues.items c.args.place c.try_push_back.new.self (ap (λ (q : Buffer Name). q.capacity) (on_ok c.try_push_back.result (c.try_push_back.ensures.variant.1 (let w = ap (λ (xs : List Name). length xs) waits in omega (arith, room, w, c.requires.room))) c.try_push_back.ensures.ok) ∙ room) c.self.invariant.0,
      few-set c.self.inside.queues.items c.args.place c.try_push_back.new.self (rw (ap (λ (q : Buffer Name). q.items) (on_ok c.try_push_back.result (c.try_push_back.ensures.variant.1 (let w = ap (λ (xs : List Name). length xs) waits in omega (arith, room, w, c.requires.room))) c.try_push_back.ensures.ok)) (omega (arith, length-append b.items (c.args.gift ∷ []), ap (λ (xs : List Name). length xs) waits, c.requires.room))) c.self.invariant.1,
    )

pub returns : goal.returns
returns c =
    let within : c.args.place < length c.self.inside.queues.items = let l = length-map c.self.inside.queues.items (λ (q : Buffer Name). q.items) in let e = ap (λ (qs : List (List Name)). length qs) c.self.view_is in omega (arith, l, e, c.requires.place) in
    let b = c.index_mut.result.now in
    let room = room_at c.self.inside.queues.items c.args.place b within c.index_mut.ensures.value c.self.invariant.0 in
    let waits : b.items ≡ gifts_of c.args.self.now c.args.place = waiting_at c.self.inside.queues.items c.args.place b within c.index_mut.ensures.value ∙ ap (λ (qs : List (List Name)). gifts_of qs c.args.place) c.self.view_is in
    waiting-set c.self.inside.queues.items c.args.place c.try_push_back.new.self
    ∙ (ap (λ (xs : List Name). set (map (λ (q : Buffer Name). q.items) c.self.inside.queues.items) c.args.place xs) (ap (λ (q : Buffer Name). q.items) (on_ok c.try_push_back.result (c.try_push_back.ensures.variant.1 (let w = ap (λ (xs : List Name). length xs) waits in omega (arith, room, w, c.requires.room))) c.try_push_back.ensures.ok) ∙ ap (λ (xs : List Name). xs ++ c.args.gift ∷ []) waits)
    ∙ ap (λ (qs : List (List Name)). set qs c.args.place (gifts_of c.args.self.now c.args.place ++ c.args.gift ∷ [])) c.self.view_is)
