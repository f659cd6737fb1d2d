use Rattle.std.proofs.Common.{◌≡◌, vec_len}
use Rattle.tm_pair.specs.Opened.{AreNewPlaces}
use Rattle.tm_pair.proofs.opened.new_places.Given as goal

abbrev pub invariant-loop : goal.invariant-loop
invariant-loop g l = record { count : vec_len l.places ≡ l.counter; new : AreNewPlaces l.places.items }
