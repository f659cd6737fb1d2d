-- One where a test says so.
use Rattle.std.proofs.Common.{◌≡◌, ℕ, zero, suc, ◌+◌, ◌≤◌, ◌⊎◌, inl, inr, Bool, true, false, cond, List, [], ◌∷◌, ◌++◌, length, refl, arith}
use Rattle.std.specs.Prelude.{nat_lt, ◌||◌}
use mir.Val.{bool_byte}

abbrev pub one_of : Bool → ℕ
one_of b = cond b 1 0

pub bool_cases : (b : Bool) → (b ≡ true) ⊎ (b ≡ false)
bool_cases true = inl refl
bool_cases false = inr refl

pub counted_most : (b a : Bool) → one_of (b || a) ≤ one_of b + one_of a
counted_most true true = omega arith
counted_most true false = omega arith
counted_most false true = omega arith
counted_most false false = omega arith

pub one_at_most : (b : Bool) → one_of b ≤ 1
one_at_most true = omega arith
one_at_most false = omega arith

pub counted_moved : (n : ℕ) → one_of (nat_lt 0 n) ≤ n
counted_moved zero = omega arith
counted_moved (suc n) = let most = one_at_most (nat_lt 0 (suc n)) in omega (arith, most)

pub length_more : {X : Type 0} (xs : List X) (x : X) → length (xs ++ x ∷ []) ≡ length xs + 1
length_more [] x = omega arith
length_more (y ∷ xs) x = let rest = length_more xs x in omega (arith, rest)

pub byte_is : (b : Bool) → bool_byte b ≡ one_of b
byte_is true = refl
byte_is false = refl
