-- Lanes at first, one more at a time.
use Rattle.std.proofs.Common.{◌≡◌, ℕ, zero, suc, ◌+◌, ◌-◌, ◌<◌, ◌≤◌, cond, slice_index_or, List, [], ◌∷◌, ◌++◌, length, ◌⊎◌, inl, inr, refl, sym, ◌∙◌, ap, subst, arith, length-append}
use Rattle.std.specs.Prelude.{slice_get}
use Rattle.std.specs.declared.option.Option.TheVariants.{None, Some}
use Rattle.std.proofs.lemmas.Bool.{cases_lt, lt-ltb, le-ltb}
use Rattle.std.proofs.lemmas.List.{get_or_past}
use Rattle.std.proofs.lemmas.Option.{slice_get_past, slice_get-get_or}
use Rattle.tm_batch.specs.declared.message.Name.{Name}
use Rattle.tm_trustee.specs.Lanes.{IsNewLane, AreNewLanes, AreCounted, names_in, names_held}
use Rattle.tm_trustee.specs.declared.lane.Lane.{Lane}

last_of : {X : Type 0} (xs : List X) (x y : X) (k : ℕ) → slice_get (xs ++ x ∷ []) k ≡ Some y → (slice_get xs k ≡ Some y) ⊎ ((k ≡ length xs) × (y ≡ x))
last_of [] x y zero e = let is : y ≡ x = cc in inr (refl, is)
last_of [] x y (suc k) e = absurd cc
last_of (z ∷ xs) x y zero e = inl e
last_of (z ∷ xs) x y (suc k) e = elim (last_of xs x y k e) [ inl h ↦ inl h | inr h ↦ inr (ap (λ n. suc n) h.0, h.1) ]

module _ {V O R T : Type 0} (u room : ℕ) (nested : List (ℕ × Name)) where
  pub no_lanes : (lanes : List (Lane V O R T)) → lanes ≡ [] → AreNewLanes u room nested 0 lanes
  no_lanes lanes none = subst (λ l. AreNewLanes u room nested 0 l) (sym none) (record { as_many = refl; each = λ i lane e. absurd cc })

  pub one_lane :
      (i : ℕ) (lanes more : List (Lane V O R T)) (lane : Lane V O R T) → AreNewLanes u room nested i lanes → IsNewLane (u + i) room nested lane
      → more ≡ lanes ++ lane ∷ [] → AreNewLanes u room nested (i + 1) more
  one_lane i lanes more lane are new is =
      let size = length-append lanes (lane ∷ []) in
      let many = are.as_many in
      let grown = ap (λ l. length l) is in
      record {
        as_many = omega (arith, size, many, grown);
        each = λ k l e.
            elim (last_of lanes lane l k (subst (λ x. slice_get x k ≡ Some l) is e)) [
              | inl before ↦ are.each k l before
              | inr last ↦ subst (λ n. IsNewLane (u + n) room nested l) (sym (last.0 ∙ many)) (subst (λ x. IsNewLane (u + i) room nested x) (sym last.1) new)
            ];
      }

module _ {V O R T : Type 0} (number : ℕ) (lanes : List (Lane V O R T)) where
  pub no_counts : (held : List ℕ) → held ≡ [] → AreCounted number lanes 0 held
  no_counts held none = subst (λ l. AreCounted number lanes 0 l) (sym none) (record { as_many = refl; each = λ u x e. absurd cc })

  pub one_count :
      (i x : ℕ) (held more : List ℕ) → AreCounted number lanes i held → x ≡ names_held number lanes i → more ≡ held ++ x ∷ [] → AreCounted number lanes (i + 1) more
  one_count i x held more are new is =
      let size = length-append held (x ∷ []) in
      let many = are.as_many in
      let grown = ap (λ l. length l) is in
      record {
        as_many = omega (arith, size, many, grown);
        each = λ u y e.
            elim (last_of held x y u (subst (λ l. slice_get l u ≡ Some y) is e)) [
              | inl before ↦ are.each u y before
              | inr last ↦ last.1 ∙ new ∙ ap (names_held number lanes) (sym (last.0 ∙ many))
            ];
      }

  -- what a lane that is there has
  pub count_there :
      (u : ℕ) (lane : Lane V O R T) → number < u → slice_get lanes (u - (number + 1)) ≡ Some lane → names_held number lanes u ≡ length lane.names.items
  count_there u lane lt at = ap (λ b. cond b (names_in (slice_get lanes (u - (number + 1)))) 0) (lt-ltb number u lt) ∙ ap names_in at

  pub count_below : (u : ℕ) → u ≤ number → names_held number lanes u ≡ 0
  count_below u le = ap (λ b. cond b (names_in (slice_get lanes (u - (number + 1)))) 0) (le-ltb number u le)

  -- the numbers are read by those of the trustees
  pub counts_read :
      (held : List ℕ) → AreCounted number lanes (number + 1 + length lanes) held → (u : ℕ) → slice_index_or held u 0 ≡ names_held number lanes u
  counts_read held are u =
      elim (cases_lt u (length held)) [
        | inl within ↦ are.each u (slice_index_or held u 0) (slice_get-get_or held u 0 within)
        | inr past ↦
            let many = are.as_many in
            let none : slice_get lanes (u - (number + 1)) ≡ None = slice_get_past lanes (u - (number + 1)) (omega (arith, past, many)) in
            let lt : number < u = omega (arith, past, many) in
            get_or_past held u 0 past ∙ sym (ap (λ b. cond b (names_in (slice_get lanes (u - (number + 1)))) 0) (lt-ltb number u lt) ∙ ap names_in none)
      ]

  pub count_past : (u : ℕ) → number < u → length lanes ≤ u - (number + 1) → names_held number lanes u ≡ 0
  count_past u lt past =
      ap (λ b. cond b (names_in (slice_get lanes (u - (number + 1)))) 0) (lt-ltb number u lt) ∙ ap names_in (slice_get_past lanes (u - (number + 1)) past)
