use Rattle.std.proofs.Common.{◌≡◌, ◌+◌, ◌++◌, length}
use Rattle.tm_client.specs.Turns.{gifts_from}
use Rattle.tm_client.proofs.turning.receive.Given as goal

abbrev pub invariant-loop-names : goal.invariant-loop-names
invariant-loop-names l =
    (l.gifts.items ++ gifts_from l.trustee l.client l.names.items ≡ l.initial.gifts.items ++ gifts_from l.trustee l.client l.initial.names.items)
    × (length l.gifts.items + length l.names.items ≡ length l.initial.gifts.items + length l.initial.names.items)
    × (l.gifts.capacity ≡ l.initial.gifts.capacity)

abbrev pub decreases-loop-names : goal.decreases-loop-names
decreases-loop-names l = length l.names.items
