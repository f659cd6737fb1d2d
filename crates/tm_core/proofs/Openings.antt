-- What the opening of a trustee gives a place.
use Rattle.std.proofs.Common.{◌≡◌, ◌≢◌, ℕ, ◌+◌, ◌<◌, ◌≤◌, true, false, cond, ◌||◌, List, [], ◌∷◌, ◌++◌, length, map, inl, inr, refl, sym, ◌∙◌, ap, subst, arith, eq-eqb, ne_eqb, slice_index_or}
use Rattle.std.specs.Prelude.{◌==◌}
use Rattle.std.specs.List.{AllByRecursion, list_any, range_with_len}
use Rattle.std.specs.List.Sorted.{IsStrictlySortedBy}
use Rattle.std.specs.Ordering.{nat_cmp}
use Rattle.std.specs.Cmp.{nat_cmp_is}
use Rattle.std.specs.declared.cmp.Ordering.TheVariants.{Less}
use Rattle.std.proofs.lemmas.Bool.{cases_eq}
use Rattle.std.proofs.lemmas.List.FromFn.{get_or-map-range_with_len}
use Rattle.std.proofs.lemmas.Map.Keys.{IsStrictlyIncreasing-from_sorted}
use Rattle.tm_seq.specs.Kind.{Kind}
use Rattle.tm_batch.specs.declared.config.First.{First}
use Rattle.tm_model.specs.State.{State, object_of, holds_in, place_count}
use Rattle.tm_model.specs.Opening.{is_named, placed_on, ids_naming, ids_at, opened}
use Rattle.tm_model.specs.ClientLaws.{OpeningsGive}
use Rattle.tm_core.proofs.CallerLemmas.{all_weaker}

module _ {V : Type 0} (c : ℕ) where
  -- the ids that name a place lie in their range
  naming_range : (id : ℕ) (fs : List (First V)) → AllByRecursion (λ i. (id ≤ i) × (i < id + length fs)) (ids_naming c id fs)
  naming_range id [] = tt
  naming_range id (f ∷ fs) =
      let more = all_weaker (λ i. (id + 1 ≤ i) × (i < id + 1 + length fs)) (λ i. (id ≤ i) × (i < id + length (f ∷ fs))) (ids_naming c (id + 1) fs)
      (λ i h. let low = h.0 in let high = h.1 in (omega (arith, low), omega (arith, high))) (naming_range (id + 1) fs) in
      elim (is_named c f) as (λ t. AllByRecursion (λ i. (id ≤ i) × (i < id + length (f ∷ fs))) (cond t (id ∷ ids_naming c (id + 1) fs) (ids_naming c (id + 1) fs))) [
        | true ↦ ((omega arith, omega arith), more)
        | false ↦ more
      ]

  naming_sorted : (id : ℕ) (fs : List (First V)) → IsStrictlySortedBy nat_cmp (ids_naming c id fs)
  unfolding IsStrictlySortedBy
  naming_sorted id [] = tt
  naming_sorted id (f ∷ fs) =
      let more = naming_sorted (id + 1) fs in
      let above = all_weaker (λ i. (id + 1 ≤ i) × (i < id + 1 + length fs)) (λ i. nat_cmp id i ≡ Less) (ids_naming c (id + 1) fs)
      (λ i h. let low = h.0 in sym (nat_cmp_is id i Less (omega (arith, low)))) (naming_range (id + 1) fs) in
      elim (is_named c f) as (λ t. IsStrictlySortedBy nat_cmp (cond t (id ∷ ids_naming c (id + 1) fs) (ids_naming c (id + 1) fs))) [
        | true ↦ (above, more)
        | false ↦ more
      ]

  -- an id below all is not among them
  naming_none : (id low : ℕ) (fs : List (First V)) → id < low → list_any (λ i. i == id) (ids_naming c low fs) ≡ false
  naming_none id low [] lt = refl
  naming_none id low (f ∷ fs) lt =
      let more = naming_none id (low + 1) fs (omega (arith, lt)) in
      let ne : low ≢ id = omega (arith, lt) in
      elim (is_named c f) as (λ t. list_any (λ i. i == id) (cond t (low ∷ ids_naming c (low + 1) fs) (ids_naming c (low + 1) fs)) ≡ false) [
        | true ↦ ap (λ b. b || list_any (λ i. i == id) (ids_naming c (low + 1) fs)) (ne_eqb low id ne) ∙ more
        | false ↦ more
      ]

  module _ (T : Type 0) (places : ℕ) (lt : c < places) where
    -- what the object of the build is as it opens holds for the place
    first_holds :
        (f : First V) → ◌≡◌ {A = ℕ} (slice_index_or (map (λ d. cond (is_named d f) 1 0) (range_with_len 0 places)) c 0) (cond (is_named c f) 1 0)
    first_holds f = get_or-map-range_with_len (λ d. cond (is_named d f) 1 0) 0 places c c 0 lt (omega arith)

    opened_holds :
        (id low : ℕ) (fs : List (First V))
        → holds_in (object_of (opened {V = V} {T = T} places low fs) id) c ≡ cond (list_any (λ i. i == id) (ids_naming c low fs)) 1 0
    opened_holds id low [] = refl
    opened_holds id low (f ∷ fs) =
        elim (cases_eq low id) [
          | inl e ↦
              let here : (low == id) ≡ true = eq-eqb low id e in
              let none = naming_none id (low + 1) fs (omega (arith, e)) in
              let all : ◌≡◌ {A = ℕ} (cond (is_named c f) 1 0)
              (cond (list_any (λ i. i == id) (cond (is_named c f) (low ∷ ids_naming c (low + 1) fs) (ids_naming c (low + 1) fs))) 1 0) =
              elim (is_named c f) as
              (λ t. ◌≡◌ {A = ℕ} (cond t 1 0) (cond (list_any (λ i. i == id) (cond t (low ∷ ids_naming c (low + 1) fs) (ids_naming c (low + 1) fs))) 1 0)) [
                | true ↦ ap (λ b. cond (b || list_any (λ i. i == id) (ids_naming c (low + 1) fs)) 1 0) (sym here)
                | false ↦ ap (λ b. cond b 1 0) (sym none)
              ] in
              rw here (first_holds f ∙ all)
          | inr ne ↦
              let elsewhere : (low == id) ≡ false = ne_eqb low id ne in
              let more = opened_holds id (low + 1) fs in
              let all : ◌≡◌ {A = ℕ} (cond (list_any (λ i. i == id) (ids_naming c (low + 1) fs)) 1 0)
              (cond (list_any (λ i. i == id) (cond (is_named c f) (low ∷ ids_naming c (low + 1) fs) (ids_naming c (low + 1) fs))) 1 0) =
              elim (is_named c f) as
              (λ t. ◌≡◌ {A = ℕ} (cond (list_any (λ i. i == id) (ids_naming c (low + 1) fs)) 1 0)
              (cond (list_any (λ i. i == id) (cond t (low ∷ ids_naming c (low + 1) fs) (ids_naming c (low + 1) fs))) 1 0)) [
                | true ↦ ap (λ b. cond (b || list_any (λ i. i == id) (ids_naming c (low + 1) fs)) 1 0) (sym elsewhere)
                | false ↦ refl
              ] in
              rw elsewhere (more ∙ all)
        ]

    opened_named :
        (low : ℕ) (before after : List (First V)) (f : First V)
        → holds_in (object_of (opened {V = V} {T = T} places low (before ++ f ∷ after)) (low + length before)) c ≡ cond (is_named c f) 1 0
    opened_named low [] after f =
        let here : (low == low + 0) ≡ true = eq-eqb low (low + 0) (omega arith) in
        rw here (first_holds f)
    opened_named low (g ∷ before) after f =
        let elsewhere : (low == low + length (g ∷ before)) ≡ false = ne_eqb low (low + length (g ∷ before)) (omega arith) in
        let next : low + length (g ∷ before) ≡ low + 1 + length before = omega arith in
        let more = opened_named (low + 1) before after f in
        rw elsewhere (ap (λ m. holds_in (object_of (opened {V = V} {T = T} places (low + 1) (before ++ f ∷ after)) m) c) next ∙ more)

module _ {V O R T : Type 0} (kind : Kind V O R T) where
  pub openings_give : OpeningsGive kind
  openings_give opening number config first c is lt =
      let places = config.clients + number in
      let fs = placed_on number first in
      let within : c < places = subst (λ (s : State V O R T). c < place_count s.setup) is lt in
      rw is (record {
        holds = λ id. opened_holds c T places within id 1 fs;
        rising = IsStrictlyIncreasing-from_sorted (ids_at number c first) (naming_sorted c 1 fs);
        range = all_weaker (λ i. (1 ≤ i) × (i < 1 + length fs)) (λ i. (1 ≤ i) × (i < length fs + 1)) (ids_at number c first)
            (λ i h. let high = h.1 in (h.0, omega (arith, high))) (naming_range c 1 fs);
        named = λ before after f e.
            subst (λ l. holds_in (object_of (opened {V = V} {T = T} places 1 l) (length before + 1)) c ≡ cond (is_named c f) 1 0) (sym e)
            (let next : length before + 1 ≡ 1 + length before = omega arith in
            ap (λ m. holds_in (object_of (opened {V = V} {T = T} places 1 (before ++ f ∷ after)) m) c) next ∙ opened_named c T places within 1 before after f);
      })
