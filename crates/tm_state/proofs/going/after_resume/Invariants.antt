use Rattle.std.proofs.Common.{◌++◌}
use Rattle.tm_state.specs.Resuming.{entry_of}
use Rattle.tm_state.proofs.going.after_resume.Given as goal

abbrev pub ghosts-pick_resume : goal.ghosts-pick_resume
ghosts-pick_resume g a = record { items = a._made.now.items ++ entry_of a._id a._ticket a._told.now.items a._next.now }
