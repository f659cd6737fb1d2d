use Rattle.std.proofs.Common.{◌≡◌, length, take}
use Rattle.tm_model.specs.Opening.{ids_naming, placed_on}
use Rattle.tm_reference.proofs.opening.ids_of.Given as goal

abbrev pub invariant-loop-object : goal.invariant-loop-object
invariant-loop-object g l =
    record { ids : l.ids.items ≡ ids_naming l.place 1 (placed_on l.trustee (take l.object-index l.first)); placed : l.placed ≡ length (placed_on l.trustee (take l.object-index l.first)) }
