-- The moments of commands, in seconds of Unix time.
use Rattle.std.specs.Prelude.{ℕ, max, min, List, [], ◌∷◌}
use Rattle.mc_item.specs.declared.limits.TheConstants.{LATEST_TIME}

-- the later of a moment and a reading of the clock, where a reading above 2 ^ 62 counts as 2 ^ 62
abbrev pub latest : ℕ → ℕ → ℕ
latest moment reading = max moment (min reading LATEST_TIME)

-- the moments after each of these readings, from a moment on
abbrev pub moments_from : ℕ → List ℕ → List ℕ
moments_from moment [] = []
moments_from moment (reading ∷ readings) = latest moment reading ∷ moments_from (latest moment reading) readings

-- one moment for each reading: the greatest of the readings so far, each cut to 2 ^ 62
abbrev pub moments_of : List ℕ → List ℕ
moments_of readings = moments_from 0 readings
