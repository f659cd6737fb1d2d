use Rattle.std.proofs.Common.{◌≡◌, map, All, replicate, vec_len, vec_capacity}
use Rattle.tm_objects.proofs.slots.blank_rows.Given as goal

abbrev pub invariant-loop : goal.invariant-loop
invariant-loop l =
    (vec_len l.rows ≡ l.counter) × (vec_capacity l.rows ≡ l.count) × All (λ row. row ≡ replicate l.width 0) (map (λ row. row.items) l.rows.items)
