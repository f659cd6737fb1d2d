use Rattle.std.proofs.Common.{◌≡◌, ◌<◌, length, ap, ◌∙◌}
use Rattle.tm_latch.specs.declared.ticket.Ticket.{Ticket}
use Rattle.tm_latch.specs.Tickets.{ticket_for, first_of}
use Rattle.tm_model.specs.State.{Start}
use Rattle.tm_objects.proofs.Queues.{on_ok}
use Rattle.tm_state.specs.Launches.{Pending, Latched}
use Rattle.tm_state.proofs.LaunchLists.{add_room, add_sound_first, add_sound_behind, added_first, added_behind}
use Rattle.tm_state.proofs.LaunchTickets.{is_running, is_waiting}
use Rattle.tm_state.proofs.launches.Launches.add.Goals.{in-Err-1, in-Ok-1}
use Rattle.tm_state.proofs.launches.Launches.add.Goals as goal

pub invariant_of-self : goal.invariant_of-self
invariant_of-self g c =
    let l = ticket_for c.launch.inside.id c.launch.inside.ticket c.launch.inside.waiting in
    let m = ticket_for c.launch.inside.id c.launch.inside.ticket c.in-Running.waiting in
    let start : c.launch.inside.waiting.awaits ≡ Start = ap (λ (x : Ticket (Pending _)). x.task.awaits) c.launch.view_is ∙ c.requires.begin in
    let few : length c.self.inside.latches.tickets < c.self.inside.latches.room = rw (← c.self.view_is) at c.requires.room in
    let is = is_running (first_of c.launch.inside.id c.self.inside.latches.tickets) c.enter.result c.launch.inside.waiting c.in-Running.waiting c.enter.ensures.runs c.enter.ensures.waits c.in-Running.is in
    let room = add_room l m c.self.inside.latches.tickets c.self.inside.begins.items c.self.inside.begins.capacity c.self.inside.latches.room c.self.invariant few start in
    let new = on_ok c.try_push_back.result (c.try_push_back.ensures.variant.1 room) c.try_push_back.ensures.ok in
    rw c.enter.ensures.entered
    (add_sound_first l m c.self.inside.latches.tickets c.self.inside.begins.items c.self.inside.begins.capacity c.self.inside.latches.room c.self.invariant few start
    c.try_push_back.new.self is.0 (ap (ticket_for c.launch.inside.id c.launch.inside.ticket) is.1) new)

pub invariant_of-self-in-Running-2 : goal.invariant_of-self-in-Running-2
invariant_of-self-in-Running-2 g c =
    let l = ticket_for c.launch.inside.id c.launch.inside.ticket c.launch.inside.waiting in
    let m = ticket_for c.launch.inside.id c.launch.inside.ticket c.in-Running.waiting in
    let start : c.launch.inside.waiting.awaits ≡ Start = ap (λ (x : Ticket (Pending _)). x.task.awaits) c.launch.view_is ∙ c.requires.begin in
    let few : length c.self.inside.latches.tickets < c.self.inside.latches.room = rw (← c.self.view_is) at c.requires.room in
    let is = is_running (first_of c.launch.inside.id c.self.inside.latches.tickets) c.enter.result c.launch.inside.waiting c.in-Running.waiting c.enter.ensures.runs c.enter.ensures.waits c.in-Running.is in
    let room = add_room l m c.self.inside.latches.tickets c.self.inside.begins.items c.self.inside.begins.capacity c.self.inside.latches.room c.self.invariant few start in
    let new = on_ok c.try_push_back.result (c.try_push_back.ensures.variant.1 room) c.try_push_back.ensures.ok in
    rw c.enter.ensures.entered
    (add_sound_first l m c.self.inside.latches.tickets c.self.inside.begins.items c.self.inside.begins.capacity c.self.inside.latches.room c.self.invariant few start
    c.try_push_back.new.self is.0 (ap (ticket_for c.launch.inside.id c.launch.inside.ticket) is.1) new)

pub invariant_of-self-in_default : goal.invariant_of-self-in_default
invariant_of-self-in_default g c =
    let l = ticket_for c.launch.inside.id c.launch.inside.ticket c.launch.inside.waiting in
    let start : c.launch.inside.waiting.awaits ≡ Start = ap (λ (x : Ticket (Pending _)). x.task.awaits) c.launch.view_is ∙ c.requires.begin in
    let few : length c.self.inside.latches.tickets < c.self.inside.latches.room = rw (← c.self.view_is) at c.requires.room in
    rw c.enter.ensures.entered
    (add_sound_behind l l c.self.inside.latches.tickets c.self.inside.begins.items c.self.inside.begins.capacity c.self.inside.latches.room c.self.invariant few start)

pub returns-in-Running-clause-begins : goal.returns-in-Running-clause-begins
returns-in-Running-clause-begins g c =
    let l = ticket_for c.launch.inside.id c.launch.inside.ticket c.launch.inside.waiting in
    let m = ticket_for c.launch.inside.id c.launch.inside.ticket c.in-Running.waiting in
    let start : c.launch.inside.waiting.awaits ≡ Start = ap (λ (x : Ticket (Pending _)). x.task.awaits) c.launch.view_is ∙ c.requires.begin in
    let few : length c.self.inside.latches.tickets < c.self.inside.latches.room = rw (← c.self.view_is) at c.requires.room in
    let is = is_running (first_of c.launch.inside.id c.self.inside.latches.tickets) c.enter.result c.launch.inside.waiting c.in-Running.waiting c.enter.ensures.runs c.enter.ensures.waits c.in-Running.is in
    let room = add_room l m c.self.inside.latches.tickets c.self.inside.begins.items c.self.inside.begins.capacity c.self.inside.latches.room c.self.invariant few start in
    let new = on_ok c.try_push_back.result (c.try_push_back.ensures.variant.1 room) c.try_push_back.ensures.ok in
    let was : Latched _ = record { launched = c.self.inside.latches.tickets; begins = c.self.inside.begins.items; room = c.self.inside.latches.room } in
    elim c.match-try_push_back.branch [
      | in-Err-1 w ↦
          added_first was c.match-try_push_back.self c.args.self.now l m c.self.view_is is.0
          (ap (λ x. x.launched) w.self-is ∙ ap (λ x. x.tickets) c.enter.ensures.entered) (ap (λ x. x.begins) w.self-is ∙ ap (λ x. x.items) new)
          (ap (ticket_for c.launch.inside.id c.launch.inside.ticket) is.1)
      | in-Ok-1 w ↦
          added_first was c.match-try_push_back.self c.args.self.now l m c.self.view_is is.0
          (ap (λ x. x.launched) w.self-is ∙ ap (λ x. x.tickets) c.enter.ensures.entered) (ap (λ x. x.begins) w.self-is ∙ ap (λ x. x.items) new)
          (ap (ticket_for c.launch.inside.id c.launch.inside.ticket) is.1)
    ]

pub returns-in_default-clause-begins : goal.returns-in_default-clause-begins
returns-in_default-clause-begins g c =
    let some = is_waiting (first_of c.launch.inside.id c.self.inside.latches.tickets) c.enter.result c.launch.inside.waiting c.enter.ensures.runs c.in_default.is in
    added_behind (record { launched = c.self.inside.latches.tickets; begins = c.self.inside.begins.items; room = c.self.inside.latches.room }) c.args.self.now
    c.enter.new.self.tickets (ticket_for c.launch.inside.id c.launch.inside.ticket c.launch.inside.waiting) c.self.view_is some (ap (λ x. x.tickets) c.enter.ensures.entered)
