use Rattle.std.proofs.Common.{◌≡◌, ℕ, Some, Contains}
use Rattle.slab.specs.Slab.{get}
use Rattle.tm_objects.proofs.slots.search.Given as goal

-- an object of the id is among those that are left, and each of those stands in its slot
abbrev pub invariant-loop-key : goal.invariant-loop-key
invariant-loop-key g l =
    (goal.iterator-loop-key g).can_next l.key-iterator ×
    (goal.iterator-loop-key g).is_finite l.key-iterator ×
    ((key : ℕ) (o : _) → get l.slots key ≡ Some o → o.id ≡ l.id → Contains l.key-iterator (key, o)) ×
    ((key : ℕ) (o : _) → Contains l.key-iterator (key, o) → get l.slots key ≡ Some o)
