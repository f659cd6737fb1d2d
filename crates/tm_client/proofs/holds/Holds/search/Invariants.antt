use Rattle.std.proofs.Common.{◌≡◌, ℕ, Some, Contains}
use Rattle.slab.specs.Slab.{get}
use Rattle.tm_client.proofs.holds.Holds.search.Given as goal

-- a place that has the hold is among those that are left, and each of those has what it is said to have
abbrev pub invariant-loop-place : goal.invariant-loop-place
invariant-loop-place l =
    goal.iterator-loop-place.can_next l.place-iterator ×
    goal.iterator-loop-place.is_finite l.place-iterator ×
    ((place : ℕ) → get l.self.places place ≡ Some l.hold → Contains l.place-iterator (place, l.hold)) ×
    ((place : ℕ) (h : _) → Contains l.place-iterator (place, h) → get l.self.places place ≡ Some h)
