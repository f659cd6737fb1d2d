-- What digits are worth.
use Rattle.std.proofs.Common.{◌≡◌, ℕ, ◌+◌, ◌-◌, ◌*◌, ◌^◌, ◌<◌, ◌≤◌, true, List, [], ◌∷◌, ◌++◌, length, take, drop, get_or, Some, None, arith, rules}
use Rattle.std.specs.List.{fold, list_all}
use Rattle.std.specs.Char.{is_ascii_digit}
use Rattle.std.specs.Fmt.{decimal}
use Rattle.std.proofs.lemmas.List.{take-append-drop}
use Rattle.std.proofs.lemmas.List.Sums.{fold-append, fold_more}
use Rattle.std.proofs.lemmas.Bool.Decides.{nat_tests}
use Rattle.std.proofs.lemmas.Option.{cond_some}
use Rattle.std.proofs.lemmas.Str.Parse.{IsNumeralModel, numerals_by_fold}
use Rattle.std.proofs.lemmas.Fmt.{digits_decimal, digits_value-decimal, decimal_nonempty, length-decimal-le}
use Rattle.mc_item.specs.Numbers.{value_of, digits_below, number_below}

-- one digit more
abbrev more : ℕ → ℕ → ℕ
more value byte = value * 10 + (byte - 48)

-- further digits make no less
fold-more_grows : (value : ℕ) (bytes : List ℕ) → value ≤ fold more value bytes
fold-more_grows value [] = omega arith
fold-more_grows value (byte ∷ bytes) = omega (arith, fold-more_grows (more value byte) bytes)

-- the first digits are worth no more than all
pub value_of-take_below : (text : List ℕ) (i : ℕ) → value_of (take i text) ≤ value_of text
value_of-take_below text i =
    let grown : value_of (take i text) ≤ fold more (value_of (take i text)) (drop i text) = fold-more_grows (value_of (take i text)) (drop i text) in
    let whole : value_of (take i text ++ drop i text) ≡ fold more (value_of (take i text)) (drop i text) = fold-append more 0 (take i text) (drop i text) in
    let same = rw take-append-drop at whole in
    omega arith

-- a text whose digits are worth too much up to some place is none
pub digits_below-too_large : (longest bound : ℕ) (text : List ℕ) (i : ℕ) → i < length text → bound ≤ value_of (take i text) * 10 + (get_or text i 0 - 48) → digits_below longest bound text ≡ None
unfolding digits_below
digits_below-too_large longest bound text i inside large =
    let here : value_of (take (i + 1) text) ≡ more (value_of (take i text)) (get_or text i 0) = fold_more more 0 text i 0 inside in
    let all = value_of-take_below text (i + 1) in
    let above : bound ≤ value_of text = omega arith in
    grind (arith, nat_tests)

-- a number is below its bound
pub number_below-lt : (bound : ℕ) (text : List ℕ) (value : ℕ) → number_below bound text ≡ Some value → value < bound
unfolding number_below digits_below
number_below-lt bound text value is =
    let parts = cond_some _ (value_of text) value is in
    grind (arith, nat_tests)

own : IsNumeralModel (λ text. list_all is_ascii_digit text ≡ true) value_of
own = numerals_by_fold _ (search rules) (λ value bytes. fold more value bytes) (search rules)

-- the digits that a number is written in are read as that number
pub number_below-decimal : (bound value : ℕ) → value < 2 ^ 64 → value < bound → number_below bound (decimal value) ≡ Some value
unfolding number_below digits_below
number_below-decimal bound value fits below =
    let digits = digits_decimal own value fits in
    let worth = digits_value-decimal own value fits in
    let some = decimal_nonempty value fits in
    let few : length (decimal value) ≤ 20 = length-decimal-le 20 value (omega arith) (omega arith) fits in
    grind (arith, nat_tests)
