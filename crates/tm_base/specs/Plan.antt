-- Which calls of a device in memory fail.
use Rattle.std.specs.Prelude.{ℕ, ◌+◌, ◌^◌, List, min}
use Rattle.tm_base.specs.Causes.{one_fault_more}

-- the numbers of the calls that fail, counted from 0; the calls so far, up to 2^64; and the faults so far
pub record Plan : Type 0 where
  pub failing : List ℕ
  pub calls : ℕ
  pub faults : ℕ

-- one call more
abbrev pub after_call : Plan → Plan
after_call plan = record { failing = plan.failing; calls = min (plan.calls + 1) (2 ^ 64); faults = plan.faults }

-- one fault more of the call
abbrev pub after_fault : Plan → Plan
after_fault plan = record { failing = plan.failing; calls = plan.calls; faults = one_fault_more plan.faults }
