-- What follows from the rule of keys.
use Rattle.std.proofs.Common.{◌≡◌, ℕ, ◌≤◌, true, List, length, arith}
use Rattle.std.specs.List.{list_all}
use Rattle.std.proofs.lemmas.Bool.Decides.{nat_tests}
use Rattle.mc_item.specs.Keys.{is_key_byte, is_key}

-- with a lawful length the bytes decide
pub is_key-in_range : (bytes : List ℕ) → 1 ≤ length bytes → length bytes ≤ 250 → is_key bytes ≡ list_all is_key_byte bytes
unfolding is_key
is_key-in_range bytes some few = grind (arith, nat_tests)

-- a key has a byte
pub is_key-some : (bytes : List ℕ) → is_key bytes ≡ true → 1 ≤ length bytes
unfolding is_key
is_key-some bytes lawful = grind (arith, nat_tests)

-- a key has few bytes
pub is_key-few : (bytes : List ℕ) → is_key bytes ≡ true → length bytes ≤ 250
unfolding is_key
is_key-few bytes lawful = grind (arith, nat_tests)

-- a key has lawful bytes alone
pub is_key-all : (bytes : List ℕ) → is_key bytes ≡ true → list_all is_key_byte bytes ≡ true
unfolding is_key
is_key-all bytes lawful = grind (arith, nat_tests)
