-- Numbers in decimal digits.
use Rattle.std.specs.Prelude.{ℕ, ◌+◌, ◌-◌, ◌*◌, ◌^◌, ℤ, pos, neg_ℤ, ◌&&◌, List, [], ◌∷◌, length, nat_lt, nat_le, ◌==◌, if◌then◌else◌, Option, Some, None}
use Rattle.std.specs.Option.{option_map}
use Rattle.std.specs.List.{fold, list_all}
use Rattle.std.specs.Char.{is_ascii_digit}
use Rattle.mc_item.specs.declared.limits.TheConstants.{LONGEST_EXPTIME, LONGEST_NUMBER}

-- what the digits are worth, the first the most
abbrev pub value_of : List ℕ → ℕ
value_of digits = fold (λ value byte. value * 10 + (byte - 48)) 0 digits

-- the value of a text of at least one and at most so many digits, if it is below the bound
unfoldable pub digits_below : ℕ → ℕ → List ℕ → Option ℕ
digits_below longest bound text =
    if nat_le 1 (length text) && nat_le (length text) longest && list_all is_ascii_digit text && nat_lt (value_of text) bound
    then Some (value_of text)
    else None

-- the value of a text of 1 to 20 digits, if it is below the bound
unfoldable pub number_below : ℕ → List ℕ → Option ℕ
number_below bound text = digits_below LONGEST_NUMBER bound text

-- the value of a text of 1 to 19 digits, if it is below 2 ^ 63
abbrev pub magnitude : List ℕ → Option ℕ
magnitude text = digits_below LONGEST_EXPTIME (2 ^ 63) text

-- an exptime: maybe a `-`, then 1 to 19 digits with a value below 2 ^ 63
unfoldable pub exptime_of : List ℕ → Option ℤ
exptime_of [] = None
exptime_of (first ∷ rest) =
    if first == 45 then option_map (λ n. neg_ℤ (pos n)) (magnitude rest) else option_map pos (magnitude (first ∷ rest))
