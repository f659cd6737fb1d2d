use Rattle.std.proofs.Common.{◌≡◌, take, drop}
use Rattle.tm_client.proofs.due.first_of.Given as goal

abbrev pub invariant-loop : goal.invariant-loop
invariant-loop g l =
    (l.batch.requests.items ≡ take l.counter l.initial.waits.items)
    × (l.waits.items ≡ drop l.counter l.initial.waits.items)
    × (l.waits.capacity ≡ l.initial.waits.capacity)
    × (l.batch.room ≡ l.room)
