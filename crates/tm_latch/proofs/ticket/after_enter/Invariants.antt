use Rattle.std.proofs.Common.{◌∷◌, [], ◌++◌}
use Rattle.tm_latch.specs.Tickets.{ticket_for}
use Rattle.tm_latch.proofs.ticket.after_enter.Given as goal

abbrev pub ghosts-pick_enter : goal.ghosts-pick_enter
ghosts-pick_enter g a = record { items = a._known.now.items ++ ticket_for a._id a._number a._task.now ∷ [] }
