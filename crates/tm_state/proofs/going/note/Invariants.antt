use Rattle.std.proofs.Common.{◌∷◌, []}
use Rattle.tm_state.proofs.going.note.Given as goal

abbrev pub ghosts-pick_note : goal.ghosts-pick_note
ghosts-pick_note g a = record { items = a._event.now ∷ [] }
