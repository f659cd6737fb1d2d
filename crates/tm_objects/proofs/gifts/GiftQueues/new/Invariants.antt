use Rattle.std.proofs.Common.{◌≡◌, ◌≤◌, [], length, map, All, replicate, vec_len, vec_capacity}
use Rattle.tm_batch.specs.declared.limits.TheConstants.{MOST_GIFTS}
use Rattle.tm_objects.proofs.gifts.GiftQueues.new.Given as goal

-- one queue for each place so far, in which no gift waits
abbrev pub invariant-loop : goal.invariant-loop
invariant-loop l =
    (vec_len l.queues ≡ l.counter) × (vec_capacity l.queues ≡ l.places)
    × All (λ n. n ≡ MOST_GIFTS) (map (λ q. q.capacity) l.queues.items)
    × (map (λ q. q.items) l.queues.items ≡ replicate l.counter [])
    × All (λ gifts. length gifts ≤ MOST_GIFTS) (map (λ q. q.items) l.queues.items)
