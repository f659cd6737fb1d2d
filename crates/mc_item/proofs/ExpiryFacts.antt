-- What follows from the rule of expiry.
use Rattle.std.proofs.Common.{ℕ, ◌^◌, ◌≤◌, ℤ, pos, negsuc, ◌<ℤ◌, arith}
use Rattle.std.proofs.lemmas.Bool.Decides.{nat_tests}
use Rattle.std.proofs.lemmas.Int.{ints}
use Rattle.mc_item.specs.Expiry.{due_at, IsDueBelow}

-- a moment of expiry fits 63 bits
pub due_at-below : (exptime : ℤ) (now : ℕ) → exptime <ℤ pos (2 ^ 63) → now ≤ 2 ^ 62 → IsDueBelow (2 ^ 63) (due_at exptime now)
unfolding due_at
due_at-below (pos seconds) now fits early = grind (arith, ints, nat_tests)
due_at-below (negsuc _) now fits early = omega arith
