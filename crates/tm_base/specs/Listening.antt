-- What a listener does.
use Rattle.std.specs.Prelude.{◌≡◌, ℕ, ◌+◌, ◌-◌, ◌^◌, min, Option, Some}

-- where the port that was bound last is told, it is this one
abbrev pub IsBoundTo : Option ℕ → ℕ → Type 0
IsBoundTo told bound = (port : ℕ) → told ≡ Some port → port ≡ bound

-- one link more, up to the last value of a u64
abbrev pub one_link_more : ℕ → ℕ
one_link_more links = min (links + 1) (2 ^ 64 - 1)

-- the door to the network: the port that was bound last, the number of links handed out, and the faults so far
pub record DoorState : Type 0 where
  pub port : Option ℕ
  pub accepted : ℕ
  pub faults : ℕ
