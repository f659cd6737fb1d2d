use Rattle.tm_latch.specs.Tickets.{without_first}
use Rattle.tm_latch.proofs.ticket.after_leave.Given as goal

abbrev pub ghosts-pick_leave : goal.ghosts-pick_leave
ghosts-pick_leave g a = record { items = without_first a._id a._known.now.items }
