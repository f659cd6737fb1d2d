-- A set of keys as a list of its members, with the position of each key in that list.
use Rattle.std.specs.Prelude.{◌≡◌, ◌≢◌, ℕ, ◌<◌, ◌≤◌, ◌==◌, Bool, not, List, length, count_by, slice_index}

-- the position of a key that is no member
abbrev pub absent : ℕ
absent = 4294967295

-- whether a key of this position is a member
abbrev pub is_member : ℕ → Bool
is_member position = not (position == absent)

-- each member has its position, and each key of a position stands there; there is room for a member more while a key is none
pub record IsSparse (members positions : List ℕ) (room : ℕ) : Type 0 where
  pub narrow : length positions < 4294967296
  pub fits : length positions ≤ room
  pub count : count_by is_member positions ≡ length members
  pub stands : (i : ℕ) → i < length members → (slice_index members i < length positions) × (slice_index positions (slice_index members i) ≡ i)
  pub found : (key : ℕ) → key < length positions → slice_index positions key ≢ absent → (slice_index positions key < length members) × (slice_index members (slice_index positions key) ≡ key)
