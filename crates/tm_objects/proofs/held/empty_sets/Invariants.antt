use Rattle.std.proofs.Common.{◌≡◌, false, replicate, vec_len, vec_capacity}
use Rattle.tm_objects.proofs.held.empty_sets.Given as goal

-- an empty set for each place so far
abbrev pub invariant-loop : goal.invariant-loop
invariant-loop l =
    (vec_len l.held ≡ l.counter) × (vec_capacity l.held ≡ l.places) × (l.held.items ≡ replicate l.counter (replicate l.size false))
