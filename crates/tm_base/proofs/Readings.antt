-- A clock in memory goes on by one reading.
use Rattle.std.proofs.Common.{◌≡◌, ℕ, List, [], ◌∷◌, ◌++◌, drop}
use Rattle.tm_base.specs.Memory.{ClockState, next_reading, after_reading}

pub read_once : (so_far so_far' coming coming' : List ℕ) (last reading : ℕ) → so_far' ≡ so_far ++ reading ∷ [] → coming' ≡ drop 1 coming → reading ≡ next_reading coming last
    → (let new : ClockState = record { so_far = so_far'; coming = coming'; last = reading } in new) ≡ after_reading (record { so_far = so_far; coming = coming; last = last })
read_once so_far so_far' coming coming' last reading longer shorter is = cc
