use Rattle.std.proofs.Common.{◌≡◌, ◌≤◌, [], map, All, replicate, vec_len, vec_capacity}
use Rattle.tm_batch.specs.declared.limits.TheConstants.{WINDOW}
use Rattle.tm_state.proofs.ready.Ready.new.Given as goal

-- one queue for each place so far, in which no completion waits
abbrev pub invariant-loop : goal.invariant-loop
invariant-loop g l =
    (vec_len l.queues ≡ l.counter) × (l.places ≤ vec_capacity l.queues)
    × All (λ n. n ≡ WINDOW) (map (λ q. q.capacity) l.queues.items)
    × (map (λ q. q.items) l.queues.items ≡ replicate l.counter [])
