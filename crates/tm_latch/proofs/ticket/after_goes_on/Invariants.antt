use Rattle.tm_latch.specs.Tickets.{with_first}
use Rattle.tm_latch.proofs.ticket.after_goes_on.Given as goal

abbrev pub ghosts-pick_goes_on : goal.ghosts-pick_goes_on
ghosts-pick_goes_on g a = record { items = with_first a._id a._task.now a._known.now.items }
