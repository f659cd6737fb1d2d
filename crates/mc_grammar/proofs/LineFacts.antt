-- Lines.
use Rattle.std.proofs.Common.{◌≡◌, ℕ, zero, suc, ◌<◌, ◌≢◌, ◌⊎◌, List, [], ◌∷◌, ◌++◌, length, get_or, take, refl, ap, inl, inr, arith}
use Rattle.std.proofs.lemmas.Bool.{cases_eq}
use Rattle.mc_model.specs.Line.{IsLine, HasNoEnd}

-- no line begins another
pub same_line : (l m u v : List ℕ) → IsLine l → IsLine m → l ++ u ≡ m ++ v → (l ≡ m) × (u ≡ v)
same_line [] m u v p q e = absurd p
same_line (b ∷ l) [] u v p q e = absurd q
same_line (b ∷ l) (c ∷ m) u v (inl p) (inl q) e = let f = rw (p.1, q.1) at e in (rw (p.1, q.1) cc, cc)
same_line (b ∷ l) (c ∷ m) u v (inl p) (inr q) e = absurd (q.0 cc)
same_line (b ∷ l) (c ∷ m) u v (inr p) (inl q) e = absurd (p.0 cc)
same_line (b ∷ l) (c ∷ m) u v (inr p) (inr q) e = let r = same_line l m u v p.1 q.1 cc in (cc, r.1)

-- a line has a byte
pub line_some : (l u : List ℕ) → IsLine l → l ++ u ≢ []
line_some [] u p e = p
line_some (b ∷ l) u p e = absurd cc

-- a text without a line feed is a line once one comes
pub ended : (bytes : List ℕ) → HasNoEnd bytes → IsLine (bytes ++ 10 ∷ [])
ended [] h = inl (refl, refl)
ended (b ∷ bytes) h = inr (h.0, ended bytes h.1)

-- a text has its first line, or no line feed
abbrev pub FirstLine : List ℕ → Type 0
FirstLine bytes = ((line : List ℕ) × (rest : List ℕ) × (bytes ≡ line ++ rest) × IsLine line) ⊎ HasNoEnd bytes

more_line : (b : ℕ) (bytes : List ℕ) → (b ≢ 10) → FirstLine bytes → FirstLine (b ∷ bytes)
more_line b bytes n (inl f) = inl (b ∷ f.0, f.1, ap (λ t. b ∷ t) f.2, inr (n, f.3))
more_line b bytes n (inr f) = inr (n, f)

pub first_line : (bytes : List ℕ) → FirstLine bytes
first_line [] = inr tt
first_line (b ∷ bytes) = elim (cases_eq b 10) [
  | inl same ↦ inl (b ∷ [], bytes, refl, inl (same, refl))
  | inr other ↦ more_line b bytes other (first_line bytes)
]

-- ---- by places

pub none_by_place : (bytes : List ℕ) → ((k : ℕ) → k < length bytes → get_or bytes k 0 ≡ 10 → ⊥) → HasNoEnd bytes
none_by_place [] h = tt
none_by_place (b ∷ bytes) h = (λ e. h 0 (omega arith) e, none_by_place bytes (λ k lt e. h (suc k) (omega arith) e))

pub line_by_place : (bytes : List ℕ) (k : ℕ) → k < length bytes → ((j : ℕ) → j < k → get_or bytes j 0 ≡ 10 → ⊥) → get_or bytes k 0 ≡ 10 → IsLine (take (suc k) bytes)
line_by_place [] k lt h e = absurd (omega arith)
line_by_place (b ∷ bytes) zero lt h e = inl (e, refl)
line_by_place (b ∷ bytes) (suc k) lt h e = inr (h 0 (omega arith), line_by_place bytes k (omega arith) (λ j below at. h (suc j) (omega arith) at) e)

-- no bytes
pub none_of_length : (bytes : List ℕ) → length bytes ≡ 0 → bytes ≡ []
none_of_length [] e = refl
none_of_length (b ∷ bytes) e = absurd (omega arith)
