use Rattle.std.proofs.Common.{◌<◌, [], ◌∷◌, ◌++◌, length, ap, ◌∙◌, arith}
use Rattle.std.proofs.lemmas.List.{length-map}
use Rattle.tm_objects.proofs.Queues.{on_ok, waiting_at}
use Rattle.tm_state.proofs.ReadyQueues.{room_at, rooms-set, ready-set}
use Rattle.std.specs.Prelude.{slice_index_or}
use Rattle.tm_state.proofs.ready.Ready.push.Goals as goal

pub invariant_of-self : goal.invariant_of-self
invariant_of-self g c =
    let within : c.args.place < length c.self.inside.queues.items = let l = length-map c.self.inside.queues.items (λ q. q.items) in let e = ap (λ qs. length qs) c.self.view_is in omega (arith, l, e, c.requires.place) in
    let b = c.index_mut.result.now in
    let room = room_at c.self.inside.queues.items c.args.place b within c.index_mut.ensures.value c.self.invariant in
    let waits = waiting_at c.self.inside.queues.items c.args.place b within c.index_mut.ensures.value ∙ ap (λ qs. slice_index_or qs c.args.place []) c.self.view_is in
    let few = ap (λ l. length l) waits in
    let new = on_ok c.try_push_back.result (c.try_push_back.ensures.variant.1 (omega (arith, room, few, c.requires.room))) c.try_push_back.ensures.ok in
    rooms-set c.self.inside.queues.items c.args.place b c.try_push_back.new.self within c.index_mut.ensures.value (ap (λ q. q.capacity) new) c.self.invariant

pub returns : goal.returns
returns g c =
    let within : c.args.place < length c.self.inside.queues.items = let l = length-map c.self.inside.queues.items (λ q. q.items) in let e = ap (λ qs. length qs) c.self.view_is in omega (arith, l, e, c.requires.place) in
    let b = c.index_mut.result.now in
    let room = room_at c.self.inside.queues.items c.args.place b within c.index_mut.ensures.value c.self.invariant in
    let waits = waiting_at c.self.inside.queues.items c.args.place b within c.index_mut.ensures.value ∙ ap (λ qs. slice_index_or qs c.args.place []) c.self.view_is in
    let few = ap (λ l. length l) waits in
    let new = on_ok c.try_push_back.result (c.try_push_back.ensures.variant.1 (omega (arith, room, few, c.requires.room))) c.try_push_back.ensures.ok in
    ready-set c.self.inside.queues.items c.args.self.now c.args.place b c.try_push_back.new.self (λ l. l ++ c.args.completion ∷ []) c.self.view_is within c.index_mut.ensures.value (ap (λ q. q.items) new)
