-- What a place holds at first, trustee by trustee: the ids that the list of the build has for it.
use Rattle.std.proofs.Common.{◌≡◌, ℕ, ◌+◌, ◌==◌, Bool, true, false, cond, inl, inr, List, [], ◌∷◌, ◌++◌, length, map, filter, refl, sym, ◌∙◌, ap, arith, eq-eqb, ne_eqb, length-append}
use Rattle.std.proofs.lemmas.Bool.{cases_eq}
use Rattle.tm_batch.specs.declared.config.First.{First}
use Rattle.tm_model.specs.Opening.{is_named, placed_on, ids_naming}
use Rattle.tm_build.specs.Holding.{held_from}
use Rattle.tm_build.proofs.Dealt.{placed_join}

abbrev one_of : Bool → ℕ
one_of b = cond b 1 0

-- the ids of trustee u among some names
abbrev pub ids_of : ℕ → List (ℕ × ℕ) → List ℕ
ids_of u held = map (λ h. h.1) (filter (λ h. h.0 == u) held)

module _ {V : Type 0} where
  placed_count :
      (u : ℕ) (before : List (First V)) (f : First V)
      → length (placed_on u (before ++ f ∷ [])) ≡ length (placed_on u before) + cond (f.trustee == u) 1 0
  placed_count u before f =
      ap (λ xs. length xs) (placed_join u before (f ∷ [])) ∙ length-append (placed_on u before) (cond (f.trustee == u) (f ∷ []) [])
      ∙ elim (f.trustee == u) as (λ b. length (placed_on u before) + length (cond b (f ∷ []) []) ≡ length (placed_on u before) + cond b 1 0) [
        | true ↦ refl
        | false ↦ refl
      ]

  named_here :
      (c u : ℕ) (named : Bool) (f : First V) (id n : ℕ) (held : List (ℕ × ℕ)) (fs : List (First V)) → (f.trustee == u) ≡ true → id ≡ n
      → ids_of u held ≡ ids_naming c (n + 1) fs
      → ids_of u (cond named ((f.trustee, id) ∷ held) held) ≡ cond named (n ∷ ids_naming c (n + 1) fs) (ids_naming c (n + 1) fs)
  named_here c u true f id n held fs here is rest =
      ap (λ b. map (λ (h : ℕ × ℕ). h.1) (cond b ((f.trustee, id) ∷ filter (λ h. h.0 == u) held) (filter (λ h. h.0 == u) held))) here
      ∙ ap (λ k. k ∷ ids_of u held) is ∙ ap (λ xs. n ∷ xs) rest
  named_here c u false f id n held fs here is rest = rest

  named_away :
      (c u : ℕ) (named : Bool) (f : First V) (id n : ℕ) (held : List (ℕ × ℕ)) (fs : List (First V)) → (f.trustee == u) ≡ false
      → ids_of u held ≡ ids_naming c n fs → ids_of u (cond named ((f.trustee, id) ∷ held) held) ≡ ids_naming c n fs
  named_away c u true f id n held fs away rest =
      ap (λ b. map (λ (h : ℕ × ℕ). h.1) (cond b ((f.trustee, id) ∷ filter (λ h. h.0 == u) held) (filter (λ h. h.0 == u) held))) away ∙ rest
  named_away c u false f id n held fs away rest = rest

  -- the ids of one trustee are those that the list has for the place there
  pub held_ids :
      (c u : ℕ) (before fs : List (First V))
      → ids_of u (held_from c before fs) ≡ ids_naming c (length (placed_on u before) + 1) (placed_on u fs)
  held_ids c u before [] = refl
  held_ids c u before (f ∷ fs) =
      let rest = held_ids c u (before ++ f ∷ []) fs in
      let count = placed_count u before f in
      elim (cases_eq f.trustee u) [
        | inl at ↦
            let here : (f.trustee == u) ≡ true = eq-eqb f.trustee u at in
            let more : length (placed_on u (before ++ f ∷ [])) + 1 ≡ length (placed_on u before) + 1 + 1 =
            let one : cond (f.trustee == u) 1 0 ≡ 1 = ap (λ b. one_of b) here in omega (arith, count, one) in
            let then : ids_of u (held_from c (before ++ f ∷ []) fs) ≡ ids_naming c (length (placed_on u before) + 1 + 1) (placed_on u fs) =
            rest ∙ ap (λ n. ids_naming c n (placed_on u fs)) more in
            let id : length (placed_on f.trustee before) + 1 ≡ length (placed_on u before) + 1 = ap (λ k. length (placed_on k before) + 1) at in
            named_here c u (is_named c f) f (length (placed_on f.trustee before) + 1) (length (placed_on u before) + 1) (held_from c (before ++ f ∷ []) fs) (placed_on u fs) here id then
            ∙ sym (ap (λ b. ids_naming c (length (placed_on u before) + 1) (cond b (f ∷ placed_on u fs) (placed_on u fs))) here)
        | inr ne ↦
            let away : (f.trustee == u) ≡ false = ne_eqb f.trustee u ne in
            let same : length (placed_on u (before ++ f ∷ [])) + 1 ≡ length (placed_on u before) + 1 =
            let none : cond (f.trustee == u) 1 0 ≡ 0 = ap (λ b. one_of b) away in omega (arith, count, none) in
            let then : ids_of u (held_from c (before ++ f ∷ []) fs) ≡ ids_naming c (length (placed_on u before) + 1) (placed_on u fs) =
            rest ∙ ap (λ n. ids_naming c n (placed_on u fs)) same in
            named_away c u (is_named c f) f (length (placed_on f.trustee before) + 1) (length (placed_on u before) + 1) (held_from c (before ++ f ∷ []) fs) (placed_on u fs) away then
            ∙ sym (ap (λ b. ids_naming c (length (placed_on u before) + 1) (cond b (f ∷ placed_on u fs) (placed_on u fs))) away)
      ]
