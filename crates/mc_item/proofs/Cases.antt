-- Worked cases: each limit once more, as a number, and the rules at their edges. The checker computes them.
use Rattle.std.proofs.Common.{◌≡◌, ℕ, ◌+◌, ◌-◌, ◌*◌, ◌^◌, pos, neg_ℤ, Bool, true, false, List, [], ◌∷◌, replicate, Some, None, refl}
use Rattle.mc_item.specs.declared.limits.TheConstants.{CLASSES, LATEST_TIME, MOST_CHANGES, MOST_ITEMS, USUAL_ITEMS, LARGEST_VALUE, LONGEST_KEY, MOST_KEYS, LONGEST_LINE, LONGEST_NUMBER, LONGEST_EXPTIME, LONGEST_RELATIVE}
use Rattle.mc_item.specs.declared.expiry.Expiry.TheVariants.{Never, At}
use Rattle.mc_item.specs.Classes.{class_of, hash_of}
use Rattle.mc_item.specs.Expiry.{due_at, is_expired}
use Rattle.mc_item.specs.Keys.{is_key}
use Rattle.mc_item.specs.Numbers.{number_below, digits_below}

-- ---- limits

classes : CLASSES ≡ 64
classes = refl

latest_time : LATEST_TIME ≡ 2 ^ 62
latest_time = refl

most_changes : MOST_CHANGES ≡ 2 ^ 58 - 1
most_changes = refl

-- so that the greatest cas number of the last class is the greatest number of 64 bits
greatest_cas : 64 * MOST_CHANGES + 63 ≡ 2 ^ 64 - 1
greatest_cas = refl

most_items : MOST_ITEMS ≡ 65536
most_items = refl

usual_items : USUAL_ITEMS ≡ 4096
usual_items = refl

largest_value : LARGEST_VALUE ≡ 1024 * 1024
largest_value = refl

longest_key : LONGEST_KEY ≡ 250
longest_key = refl

most_keys : MOST_KEYS ≡ 1024
most_keys = refl

longest_line : LONGEST_LINE ≡ 65536
longest_line = refl

longest_number : LONGEST_NUMBER ≡ 20
longest_number = refl

longest_exptime : LONGEST_EXPTIME ≡ 19
longest_exptime = refl

-- 30 days
longest_relative : LONGEST_RELATIVE ≡ 30 * 24 * 60 * 60
longest_relative = refl

-- ---- classes: `a`, `!` and `0Q` are in class 33, `b` in class 34
class_of_a : class_of (97 ∷ []) ≡ 33
unfolding class_of hash_of
class_of_a = refl

class_of_mark : class_of (33 ∷ []) ≡ 33
unfolding class_of hash_of
class_of_mark = refl

class_of_two : class_of (48 ∷ 81 ∷ []) ≡ 33
unfolding class_of hash_of
class_of_two = refl

class_of_b : class_of (98 ∷ []) ≡ 34
unfolding class_of hash_of
class_of_b = refl

-- ---- expiry
never : due_at (pos 0) 100 ≡ Never
unfolding due_at
never = refl

relative : due_at (pos 2592000) 100 ≡ At 2592100
unfolding due_at
relative = refl

absolute : due_at (pos 2592001) 100 ≡ At 2592001
unfolding due_at
absolute = refl

past : due_at (neg_ℤ (pos 1)) 100 ≡ At 0
unfolding due_at
past = refl

not_yet : is_expired (At 101) 100 ≡ false
not_yet = refl

now : is_expired (At 100) 100 ≡ true
now = refl

-- ---- numbers: at most 20 digits, zeros lead, and the value is below the bound
greatest : number_below (2 ^ 64) (49 ∷ 56 ∷ 52 ∷ 52 ∷ 54 ∷ 55 ∷ 52 ∷ 52 ∷ 48 ∷ 55 ∷ 51 ∷ 55 ∷ 48 ∷ 57 ∷ 53 ∷ 53 ∷ 49 ∷ 54 ∷ 49 ∷ 53 ∷ []) ≡ Some (2 ^ 64 - 1)
unfolding number_below digits_below
greatest = refl

zeros : number_below (2 ^ 64) (replicate 20 48) ≡ Some 0
unfolding number_below digits_below
zeros = refl

too_many_zeros : number_below (2 ^ 64) (replicate 21 48) ≡ None
unfolding number_below digits_below
too_many_zeros = refl
