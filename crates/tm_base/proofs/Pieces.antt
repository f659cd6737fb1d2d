-- Parts of a list that is read or written piece by piece.
use Rattle.std.proofs.Common.{◌≡◌, ℕ, ◌+◌, ◌-◌, ◌^◌, ◌<◌, List, ◌++◌, length, take, drop, min, ap, sym, ◌∙◌, arith, append_assoc}
use Rattle.std.proofs.Math.Seq.{take-add}
use Rattle.std.proofs.lemmas.List.{length-drop, drop-drop, drop_min, take_all}

-- what was written up to a place, and a front of what a slice has from there
pub from_place : (at n : ℕ) (s before : List ℕ) → (before ++ take at s) ++ take n (take (length s - at) (drop at s)) ≡ before ++ take (at + n) s
from_place at n s before =
    append_assoc before (take at s) (take n (take (length s - at) (drop at s)))
    ∙ ap (λ b. before ++ (take at s ++ take n b)) (take_all (length s - at) (drop at s) (omega (arith, length-drop at s)))
    ∙ ap (λ b. before ++ b) (sym (take-add at n s))

-- a place that moves on by one, up to the end
pub one_further : (n k : ℕ) (xs : List ℕ) → k ≡ min (min (n + 1) (2 ^ 64 - 1)) (length xs) → length xs < 2 ^ 64 → drop k xs ≡ drop 1 (drop n xs)
one_further n k xs is fits =
    let same : k ≡ min (n + 1) (length xs) = omega arith in
    ap (λ i. drop i xs) same ∙ drop_min (n + 1) xs ∙ sym (drop-drop 1 n xs)

-- what a slice has from a place on
pub rest_of : (at : ℕ) (s t : List ℕ) → t ≡ s → take (length t - at) (drop at t) ≡ drop at s
rest_of at s t same = take_all (length t - at) (drop at t) (omega (arith, length-drop at t)) ∙ ap (drop at) same
