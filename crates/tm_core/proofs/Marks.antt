-- What marked entries ran, what left by them and whether they are settled, where logs are joined and for the entries of a batch.
-- Other crates import from this file.
use Rattle.std.proofs.Common.{◌≡◌, ◌≢◌, ℕ, ◌+◌, ◌<◌, true, false, cond, List, [], ◌∷◌, ◌++◌, refl, sym, ◌∙◌, ap, subst, arith, eq-eqb, ne_eqb}
use Rattle.std.specs.Prelude.{◌==◌}
use Rattle.std.specs.List.{AllByRecursion}
use Rattle.tm_model.specs.GoodSlots.{Mark, Ran, Left, Other, IsOf, ran_by, left_by, IsSettled, IsBatchOf, AreOfNone, run_before, left_before, IsRunOf}

module _ {Q : Type 0} where
  run_append : (c : ℕ) (m : Mark Q) (qs rs : List Q) → run_before c m (qs ++ rs) ≡ run_before c m qs ++ rs
  run_append c (Ran d q) qs rs = elim (d == c) as (λ t. cond t (q ∷ (qs ++ rs)) (qs ++ rs) ≡ cond t (q ∷ qs) qs ++ rs) [ true ↦ refl | false ↦ refl ]
  run_append c (Left d room) qs rs = refl
  run_append c Other qs rs = refl

  left_plus : (c : ℕ) (m : Mark Q) (n k : ℕ) → left_before c m (n + k) ≡ left_before c m n + k
  left_plus c (Ran d q) n k = refl
  left_plus c (Left d room) n k =
      elim (d == c) as (λ t. cond t (n + k + 1) (n + k) ≡ cond t (n + 1) n + k) [ true ↦ omega arith | false ↦ refl ]
  left_plus c Other n k = refl

module _ {Q E : Type 0} (mark : E → Mark Q) where
  pub ran-append : (c : ℕ) (xs ys : List E) → ran_by mark c (xs ++ ys) ≡ ran_by mark c xs ++ ran_by mark c ys
  ran-append c [] ys = refl
  ran-append c (e ∷ xs) ys = ap (run_before c (mark e)) (ran-append c xs ys) ∙ run_append c (mark e) (ran_by mark c xs) (ran_by mark c ys)

  pub left-append : (c : ℕ) (xs ys : List E) → left_by mark c (xs ++ ys) ≡ left_by mark c xs + left_by mark c ys
  left-append c [] ys = omega arith
  left-append c (e ∷ xs) ys = ap (left_before c (mark e)) (left-append c xs ys) ∙ left_plus c (mark e) (left_by mark c xs) (left_by mark c ys)

  pub settled-append : (c : ℕ) (xs ys : List E) → IsSettled mark c xs → IsSettled mark c ys → IsSettled mark c (xs ++ ys)
  settled-append c [] ys p q = q
  settled-append c (e ∷ xs) ys p q =
      (λ h. let had : 0 < left_by mark c xs = p.0 h in rw (left-append c xs ys) (omega arith), settled-append c xs ys p.1 q)

  -- what is settled is settled from each entry on
  pub settled_behind : (c : ℕ) (xs ys : List E) → IsSettled mark c (xs ++ ys) → IsSettled mark c ys
  settled_behind c [] ys p = p
  settled_behind c (e ∷ xs) ys p = settled_behind c xs ys p.1

  -- no entry is one of place c
  abbrev pub AreNotOf : ℕ → List E → Type 0
  AreNotOf c es = AllByRecursion (λ e. ¬ IsOf c (mark e)) es

  run_other : (c : ℕ) (m : Mark Q) (qs : List Q) → ¬ IsOf c m → run_before c m qs ≡ qs
  run_other c (Ran d q) qs not = rw (ne_eqb d c not) refl
  run_other c (Left d room) qs not = refl
  run_other c Other qs not = refl

  left_other : (c : ℕ) (m : Mark Q) (n : ℕ) → ¬ IsOf c m → left_before c m n ≡ n
  left_other c (Ran d q) n not = refl
  left_other c (Left d room) n not = rw (ne_eqb d c not) refl
  left_other c Other n not = refl

  run_is_of : (c : ℕ) (m : Mark Q) → IsRunOf c m → IsOf c m
  run_is_of c (Ran d q) h = h
  run_is_of c (Left d room) h = absurd h
  run_is_of c Other h = absurd h

  pub ran_none : (c : ℕ) (es : List E) → AreNotOf c es → ran_by mark c es ≡ []
  ran_none c [] h = refl
  ran_none c (e ∷ es) h = run_other c (mark e) (ran_by mark c es) h.0 ∙ ran_none c es h.1

  pub left_none : (c : ℕ) (es : List E) → AreNotOf c es → left_by mark c es ≡ 0
  left_none c [] h = refl
  left_none c (e ∷ es) h = left_other c (mark e) (left_by mark c es) h.0 ∙ left_none c es h.1

  pub settled_none : (c : ℕ) (es : List E) → AreNotOf c es → IsSettled mark c es
  settled_none c [] h = tt
  settled_none c (e ∷ es) h = (λ run. absurd (h.0 (run_is_of c (mark e) run)), settled_none c es h.1)

  pub not_of-append : (c : ℕ) (xs ys : List E) → AreNotOf c xs → AreNotOf c ys → AreNotOf c (xs ++ ys)
  not_of-append c [] ys p q = q
  not_of-append c (e ∷ xs) ys p q = (p.0, not_of-append c xs ys p.1 q)

  -- an entry among some is none of the place, if none of them is
  pub not_of_at : (c : ℕ) (xs : List E) (e : E) (ys : List E) → AreNotOf c (xs ++ e ∷ ys) → ¬ IsOf c (mark e)
  not_of_at c [] e ys h = h.0
  not_of_at c (x ∷ xs) e ys h = not_of_at c xs e ys h.1

  -- entries of no place are none of place c
  pub none_not_of : (c : ℕ) (es : List E) → AreOfNone mark es → AreNotOf c es
  none_not_of c [] h = tt
  none_not_of c (e ∷ es) h = (λ is. let P : Mark Q → Type 0 = IsOf c in subst P h.0 is, none_not_of c es h.1)

  -- the entries of a batch, one by one
  module _ (c room : ℕ) where
    pub batch_ran : (b : List Q) (own : List E) → IsBatchOf mark c b room own → ran_by mark c own ≡ b
    batch_ran [] [] is = absurd cc
    batch_ran [] (e ∷ []) is = let at : mark e ≡ Left c room = cc in rw at refl
    batch_ran [] (e ∷ f ∷ es) is = absurd cc
    batch_ran (q ∷ b) [] is = absurd cc
    batch_ran (q ∷ b) (e ∷ es) is =
        let at : mark e ≡ Ran c q = cc in
        let rest : IsBatchOf mark c b room es = cc in
        rw (at, eq-eqb c c refl) (ap (λ l. q ∷ l) (batch_ran b es rest))

    pub batch_left : (b : List Q) (own : List E) → IsBatchOf mark c b room own → left_by mark c own ≡ 1
    batch_left [] [] is = absurd cc
    batch_left [] (e ∷ []) is = let at : mark e ≡ Left c room = cc in rw (at, eq-eqb c c refl) refl
    batch_left [] (e ∷ f ∷ es) is = absurd cc
    batch_left (q ∷ b) [] is = absurd cc
    batch_left (q ∷ b) (e ∷ es) is =
        let at : mark e ≡ Ran c q = cc in
        let rest : IsBatchOf mark c b room es = cc in
        rw at (batch_left b es rest)

    pub batch_settled : (b : List Q) (own : List E) → IsBatchOf mark c b room own → IsSettled mark c own
    batch_settled [] [] is = absurd cc
    batch_settled [] (e ∷ []) is = let at : mark e ≡ Left c room = cc in (rw at (λ h. absurd h), tt)
    batch_settled [] (e ∷ f ∷ es) is = absurd cc
    batch_settled (q ∷ b) [] is = absurd cc
    batch_settled (q ∷ b) (e ∷ es) is =
        let rest : IsBatchOf mark c b room es = cc in
        let left = batch_left b es rest in
        (λ h. omega (arith, left), batch_settled b es rest)

    -- the last entry of a batch is the one by which it left
    pub batch_last : (b : List Q) (own : List E) → IsBatchOf mark c b room own → (front : List E) × (e : E) × (own ≡ front ++ e ∷ []) × (mark e ≡ Left c room)
    batch_last [] [] is = absurd cc
    batch_last [] (e ∷ []) is = ([], e, refl, cc)
    batch_last [] (e ∷ f ∷ es) is = absurd cc
    batch_last (q ∷ b) [] is = absurd cc
    batch_last (q ∷ b) (e ∷ es) is =
        let rest : IsBatchOf mark c b room es = cc in
        let (front, last, ends, at) = batch_last b es rest in
        (e ∷ front, last, cc, at)

    pub batch_not_of : (d : ℕ) → d ≢ c → (b : List Q) (own : List E) → IsBatchOf mark c b room own → AreNotOf d own
    batch_not_of d ne [] [] is = absurd cc
    batch_not_of d ne [] (e ∷ []) is = let at : mark e ≡ Left c room = cc in (rw at (λ h. ne (sym h)), tt)
    batch_not_of d ne [] (e ∷ f ∷ es) is = absurd cc
    batch_not_of d ne (q ∷ b) [] is = absurd cc
    batch_not_of d ne (q ∷ b) (e ∷ es) is =
        let at : mark e ≡ Ran c q = cc in
        let rest : IsBatchOf mark c b room es = cc in
        (rw at (λ h. ne (sym h)), batch_not_of d ne b es rest)
