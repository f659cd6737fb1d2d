-- `cond` over numbers: equal branches, a sum in a branch, and two tests in the other order.
use Rattle.std.proofs.Common.{◌≡◌, ℕ, ◌+◌, Bool, true, false, cond, refl, add-zero}

pub cond_same : (t : Bool) (n : ℕ) → cond t n n ≡ n
cond_same true n = refl
cond_same false n = refl

pub cond_plus : (t : Bool) (n : ℕ) → cond t (n + 0) 0 ≡ cond t n 0
cond_plus true n = add-zero n
cond_plus false n = refl

pub cond_swap : (t u : Bool) (n : ℕ) → cond t (cond u n 0) 0 ≡ cond u (cond t n 0) 0
cond_swap true u n = refl
cond_swap false true n = refl
cond_swap false false n = refl
