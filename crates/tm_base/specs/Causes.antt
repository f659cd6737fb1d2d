-- Why a call failed: the count of faults of the device rose.
use Rattle.std.specs.Prelude.{ℕ, ◌+◌, ◌-◌, ◌^◌, ◌≤◌, min, Result, OnErr}

-- one fault more, up to the last value of a u64
abbrev pub one_fault_more : ℕ → ℕ
one_fault_more faults = min (faults + 1) (2 ^ 64 - 1)

-- a count rose, or stands at the last value of a u64
abbrev pub Rose : ℕ → ℕ → Type 0
Rose before now = min (before + 1) (2 ^ 64 - 1) ≤ now

-- the count never falls, and the call failed only where it rose
pub record HasCause {T E : Type 0} (before now : ℕ) (result : Result T E) : Type 0 where
  pub later : before ≤ now
  pub failed : OnErr result (Rose before now)
