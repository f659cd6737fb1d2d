-- Counts of faults, worked by hand: which count has risen, and that it stands still at the last value of a u64.
use Rattle.std.proofs.Common.{◌≡◌, ◌-◌, ◌^◌, refl, arith, lit≤}
use Rattle.tm_base.specs.Causes.{one_fault_more, Rose}

stood : Rose 3 3 → ⊥
stood r = omega (arith, r)

fell : Rose 3 2 → ⊥
fell r = omega (arith, r)

rose : Rose 3 4
rose = omega arith

last : Rose (2 ^ 64 - 1) (2 ^ 64 - 1)
last = lit≤ tt

before_last : Rose 18446744073709551614 18446744073709551614 → ⊥
before_last r = omega (arith, r)

one_more : one_fault_more 3 ≡ 4
one_more = refl

at_the_last : one_fault_more 18446744073709551615 ≡ 18446744073709551615
at_the_last = refl
