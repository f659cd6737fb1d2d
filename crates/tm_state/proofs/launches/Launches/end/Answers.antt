use Rattle.std.proofs.Common.{◌≡◌, ap, ◌∙◌}
use Rattle.std.specs.Prelude.{IsSome, option_map}
use Rattle.std.specs.declared.option.Option.TheVariants.{None}
use Rattle.tm_latch.specs.Tickets.{ticket_for, first_of, without_first}
use Rattle.tm_objects.proofs.Queues.{on_ok}
use Rattle.tm_state.specs.Launches.{Latched}
use Rattle.tm_state.proofs.LaunchLists.{end_room, end_sound_next, end_sound_none, ended_next, ended_none}
use Rattle.tm_state.proofs.LaunchTickets.{first_id, next_there, none_there, ticket_is}
use Rattle.tm_state.proofs.launches.Launches.end.Goals.{in-Err-1, in-Ok-1}
use Rattle.tm_state.proofs.launches.Launches.end.Goals as goal

pub invariant_of-self : goal.invariant_of-self
invariant_of-self g c =
    let id = c.args.id in
    let launched = c.self.inside.latches.tickets in
    let some : IsSome (first_of id launched) = rw (← c.self.view_is) at c.requires.first in
    let none : first_of id c.self.inside.begins.items ≡ None = rw (← c.self.view_is) at c.requires.gone in
    let next = next_there (first_of id (without_first id launched)) c.leave.result c.in-Some.ticket c.in-Some.waiting
    (c.leave.ensures.next ∙ ap (λ x. option_map (λ t. (t.number, t.task)) (first_of id x.tickets)) c.leave.ensures.left) c.in-Some.is in
    let own = first_id id (without_first id launched) next.0 next.1 in
    let m = ticket_for id c.in-Some.ticket c.in-Some.waiting in
    let same : m ≡ next.0 = ticket_is next.0 id c.in-Some.ticket c.in-Some.waiting own next.2 next.3 in
    let room = end_room id launched c.self.inside.begins.items c.self.inside.begins.capacity c.self.inside.latches.room c.self.invariant some none in
    let new = on_ok c.try_push_back.result (c.try_push_back.ensures.variant.1 room) c.try_push_back.ensures.ok in
    rw c.leave.ensures.left
    (end_sound_next id launched c.self.inside.begins.items c.self.inside.begins.capacity c.self.inside.latches.room c.self.invariant some none next.0 m c.try_push_back.new.self next.1 same new)

pub invariant_of-self-in-Some-2 : goal.invariant_of-self-in-Some-2
invariant_of-self-in-Some-2 g c =
    let id = c.args.id in
    let launched = c.self.inside.latches.tickets in
    let some : IsSome (first_of id launched) = rw (← c.self.view_is) at c.requires.first in
    let none : first_of id c.self.inside.begins.items ≡ None = rw (← c.self.view_is) at c.requires.gone in
    let next = next_there (first_of id (without_first id launched)) c.leave.result c.in-Some.ticket c.in-Some.waiting
    (c.leave.ensures.next ∙ ap (λ x. option_map (λ t. (t.number, t.task)) (first_of id x.tickets)) c.leave.ensures.left) c.in-Some.is in
    let own = first_id id (without_first id launched) next.0 next.1 in
    let m = ticket_for id c.in-Some.ticket c.in-Some.waiting in
    let same : m ≡ next.0 = ticket_is next.0 id c.in-Some.ticket c.in-Some.waiting own next.2 next.3 in
    let room = end_room id launched c.self.inside.begins.items c.self.inside.begins.capacity c.self.inside.latches.room c.self.invariant some none in
    let new = on_ok c.try_push_back.result (c.try_push_back.ensures.variant.1 room) c.try_push_back.ensures.ok in
    rw c.leave.ensures.left
    (end_sound_next id launched c.self.inside.begins.items c.self.inside.begins.capacity c.self.inside.latches.room c.self.invariant some none next.0 m c.try_push_back.new.self next.1 same new)

pub invariant_of-self-in_default : goal.invariant_of-self-in_default
invariant_of-self-in_default g c =
    let id = c.args.id in
    let launched = c.self.inside.latches.tickets in
    let some : IsSome (first_of id launched) = rw (← c.self.view_is) at c.requires.first in
    let none : first_of id c.self.inside.begins.items ≡ None = rw (← c.self.view_is) at c.requires.gone in
    rw c.leave.ensures.left
    (end_sound_none id launched c.self.inside.begins.items c.self.inside.begins.capacity c.self.inside.latches.room c.self.invariant some none)

pub returns-in-Some-clause-begins : goal.returns-in-Some-clause-begins
returns-in-Some-clause-begins g c =
    let id = c.args.id in
    let launched = c.self.inside.latches.tickets in
    let some : IsSome (first_of id launched) = rw (← c.self.view_is) at c.requires.first in
    let none : first_of id c.self.inside.begins.items ≡ None = rw (← c.self.view_is) at c.requires.gone in
    let next = next_there (first_of id (without_first id launched)) c.leave.result c.in-Some.ticket c.in-Some.waiting
    (c.leave.ensures.next ∙ ap (λ x. option_map (λ t. (t.number, t.task)) (first_of id x.tickets)) c.leave.ensures.left) c.in-Some.is in
    let own = first_id id (without_first id launched) next.0 next.1 in
    let m = ticket_for id c.in-Some.ticket c.in-Some.waiting in
    let same : m ≡ next.0 = ticket_is next.0 id c.in-Some.ticket c.in-Some.waiting own next.2 next.3 in
    let room = end_room id launched c.self.inside.begins.items c.self.inside.begins.capacity c.self.inside.latches.room c.self.invariant some none in
    let new = on_ok c.try_push_back.result (c.try_push_back.ensures.variant.1 room) c.try_push_back.ensures.ok in
    let was : Latched _ = record { launched = launched; begins = c.self.inside.begins.items; room = c.self.inside.latches.room } in
    elim c.match-try_push_back.branch [
      | in-Err-1 w ↦
          ended_next was c.match-try_push_back.self c.args.self.now id next.0 m c.self.view_is none
          (ap (λ x. x.launched) w.self-is ∙ ap (λ x. x.tickets) c.leave.ensures.left) (ap (λ x. x.begins) w.self-is ∙ ap (λ x. x.items) new) same own
      | in-Ok-1 w ↦
          ended_next was c.match-try_push_back.self c.args.self.now id next.0 m c.self.view_is none
          (ap (λ x. x.launched) w.self-is ∙ ap (λ x. x.tickets) c.leave.ensures.left) (ap (λ x. x.begins) w.self-is ∙ ap (λ x. x.items) new) same own
    ]

pub returns-in_default-clause-begins : goal.returns-in_default-clause-begins
returns-in_default-clause-begins g c =
    let id = c.args.id in
    let launched = c.self.inside.latches.tickets in
    let some : IsSome (first_of id launched) = rw (← c.self.view_is) at c.requires.first in
    let none : first_of id c.self.inside.begins.items ≡ None = rw (← c.self.view_is) at c.requires.gone in
    let last = none_there (first_of id (without_first id launched)) c.leave.result
    (c.leave.ensures.next ∙ ap (λ x. option_map (λ t. (t.number, t.task)) (first_of id x.tickets)) c.leave.ensures.left) c.in_default.is in
    ended_none (record { launched = launched; begins = c.self.inside.begins.items; room = c.self.inside.latches.room }) c.args.self.now c.leave.new.self.tickets id
    c.self.view_is last (ap (λ x. x.tickets) c.leave.ensures.left)
