-- What a place holds, by the list of the build one object further.
use Rattle.std.proofs.Common.{◌≡◌, ℕ, zero, suc, ◌+◌, ◌<◌, ◌≤◌, cond, true, false, Bool, inl, inr, List, [], ◌∷◌, ◌++◌, length, take, drop, sym, ◌∙◌, ap, subst, arith, slice_index_or, slice_set, append_assoc, append-nil, length-append}
use Rattle.std.specs.List.{AllByRecursion}
use Rattle.std.proofs.lemmas.Bool.{cases_eq}
use Rattle.std.proofs.lemmas.List.{take_more, drop_more, drop_all, take-append-drop, get_or-set_same, get_or-set_other}
use Rattle.tm_batch.specs.declared.config.First.{First}
use Rattle.tm_model.specs.Opening.{is_named, placed_on}
use Rattle.tm_build.specs.Holding.{held_from, held_of}
use Rattle.tm_build.proofs.Dealt.{placed_join, placed_here, placed_away}

-- what holds of each element holds of the one at an index
pub all_at : {X : Type 0} (P : X → Type 0) (xs : List X) (i : ℕ) (x : X) → AllByRecursion P xs → i < length xs → x ≡ slice_index_or xs i x → P x
all_at P [] i x all lt is = absurd (omega (arith, lt))
all_at P (y ∷ xs) zero x all lt is = subst P (sym is) all.0
all_at P (y ∷ xs) (suc i) x all lt is = all_at P xs i x all.1 (omega (arith, lt)) is

chosen : {X : Type 0} (b : Bool) (xs : List X) (p : X) (rest : List X) → (xs ++ cond b (p ∷ []) []) ++ rest ≡ xs ++ cond b (p ∷ rest) rest
chosen true xs p rest = append_assoc xs (p ∷ []) rest
chosen false xs p rest = ap (λ ys. ys ++ rest) (append-nil xs)

module _ {V : Type 0} where
  -- an object of the list, behind the front before it
  front_more : (xs : List (First V)) (i : ℕ) (f : First V) → i < length xs → f ≡ slice_index_or xs i f → take (i + 1) xs ≡ take i xs ++ f ∷ []
  front_more xs i f lt at = take_more xs i f lt ∙ ap (λ x. take i xs ++ x ∷ []) (sym at)

  pub held_more :
      (c i : ℕ) (xs : List (First V)) (f : First V) (before : ℕ) (held news whole : List (ℕ × ℕ)) → i < length xs → f ≡ slice_index_or xs i f
      → before ≡ length (placed_on f.trustee (take i xs)) → news ≡ held ++ cond (is_named c f) ((f.trustee, before + 1) ∷ []) []
      → held ++ held_from c (take i xs) (drop i xs) ≡ whole → news ++ held_from c (take (i + 1) xs) (drop (i + 1) xs) ≡ whole
  held_more c i xs f before held news whole lt at count is so_far =
      let rest : drop i xs ≡ f ∷ drop (i + 1) xs = drop_more xs i f lt ∙ ap (λ x. x ∷ drop (i + 1) xs) (sym at) in
      let more : List (ℕ × ℕ) = held_from c (take i xs ++ f ∷ []) (drop (i + 1) xs) in
      ap (λ b. news ++ held_from c b (drop (i + 1) xs)) (front_more xs i f lt at) ∙ ap (λ n. n ++ more) is
      ∙ chosen (is_named c f) held (f.trustee, before + 1) more
      ∙ ap (λ n. held ++ cond (is_named c f) ((f.trustee, n + 1) ∷ more) more) count
      ∙ sym (ap (λ d. held ++ held_from c (take i xs) d) rest) ∙ so_far

  pub held_all :
      (c i : ℕ) (xs : List (First V)) (held : List (ℕ × ℕ)) → length xs ≤ i → held ++ held_from c (take i xs) (drop i xs) ≡ held_of c xs
      → held ≡ held_of c xs
  held_all c i xs held le so_far =
      sym (append-nil held) ∙ sym (ap (λ d. held ++ held_from c (take i xs) d) (drop_all i xs le)) ∙ so_far

  -- a front of the list has no more objects on a trustee than the list
  pub few_placed : (u i : ℕ) (xs : List (First V)) → length (placed_on u (take i xs)) ≤ length (placed_on u xs)
  few_placed u i xs =
      let e : length (placed_on u xs) ≡ length (placed_on u (take i xs)) + length (placed_on u (drop i xs)) =
      ap (λ ys. length (placed_on u ys)) (sym (take-append-drop i xs)) ∙ ap (λ ys. length ys) (placed_join u (take i xs) (drop i xs))
      ∙ length-append (placed_on u (take i xs)) (placed_on u (drop i xs)) in
      omega (arith, e)

  pub counted_more :
      (n i : ℕ) (xs : List (First V)) (f : First V) (before : ℕ) (counts news : List ℕ) → i < length xs → f ≡ slice_index_or xs i f → f.trustee < n
      → length counts ≡ n → before ≡ slice_index_or counts f.trustee 0 → news ≡ slice_set counts f.trustee (before + 1)
      → ((t : ℕ) → t < n → slice_index_or counts t 0 ≡ length (placed_on t (take i xs)))
      → (t : ℕ) → t < n → slice_index_or news t 0 ≡ length (placed_on t (take (i + 1) xs))
  counted_more n i xs f before counts news lt at below many was is counted t within =
      let front = front_more xs i f lt at in
      let same : slice_index_or news t 0 ≡ slice_index_or (slice_set counts f.trustee (before + 1)) t 0 = ap (λ ns. slice_index_or ns t 0) is in
      elim (cases_eq t f.trustee) [
        | inl here ↦
            let in_counts : f.trustee < length counts = omega (arith, below, many) in
            let one : length (placed_on t (take i xs ++ f ∷ [])) ≡ length (placed_on t (take i xs)) + 1 =
            ap (λ ys. length ys) (placed_here (take i xs) f t (sym here)) ∙ length-append (placed_on t (take i xs)) (f ∷ []) in
            same ∙ ap (λ k. slice_index_or (slice_set counts f.trustee (before + 1)) k 0) here
            ∙ get_or-set_same counts f.trustee (before + 1) 0 in_counts
            ∙ ap (λ k. k + 1) (was ∙ ap (λ k. slice_index_or counts k 0) (sym here) ∙ counted t within) ∙ sym one
            ∙ sym (ap (λ ys. length (placed_on t ys)) front)
        | inr ne ↦
            same ∙ get_or-set_other counts f.trustee t (before + 1) 0 ne ∙ counted t within
            ∙ sym (ap (λ ys. length ys) (placed_away (take i xs) f t (λ e. ne (sym e)))) ∙ sym (ap (λ ys. length (placed_on t ys)) front)
      ]
