-- A place's holds on an id, summed over the live objects, where a hold is granted, released or reclaimed or an object is added.
use Rattle.std.proofs.Common.{◌≡◌, ◌≢◌, ℕ, ◌+◌, ◌-◌, ◌<◌, ◌≤◌, ◌⊎◌, true, false, cond, List, [], ◌∷◌, ◌++◌, length, slice_index_or, slice_set, sum, length-set, inl, inr, refl, sym, ◌∙◌, ap, arith, eq-eqb, ne_eqb, get_or-set_same, get_or-set_other, add-zero}
use Rattle.std.specs.Prelude.{◌==◌}
use Rattle.std.specs.declared.option.Option.TheVariants.{Some}
use Rattle.std.proofs.lemmas.Bool.{cases_eq, cases_lt}
use Rattle.std.proofs.lemmas.List.{get_or_past}
use Rattle.std.proofs.lemmas.List.Sums.{get_or-le-sum_by, sum_by-set}
use Rattle.tm_model.specs.State.{Object, holds_of, with_holds, total, change, without, object_of, holds_in}
use Rattle.tm_core.proofs.CallerLemmas.{item_within}
use Rattle.tm_core.proofs.Rising.{RisesTo, holds_sum, holds_are_sum, sum_change, sum_change_other, sum_changed}

-- two places together hold no more than all
two_holds : (holds : List ℕ) (c d : ℕ) → d ≢ c → slice_index_or holds c 0 + slice_index_or holds d 0 ≤ sum holds
two_holds holds c d ne =
    elim (cases_lt c (length holds)) [
      | inl lt ↦
          elim (cases_lt d (length holds)) [
            | inl ld ↦
                let rest = sum_by-set (λ x. x) holds c 0 0 lt in
                let there : d < length (slice_set holds c 0) = rw (length-set holds c 0) ld in
                let le = get_or-le-sum_by (λ x. x) (slice_set holds c 0) d 0 there in
                let same = get_or-set_other holds c d 0 0 ne in
                omega (arith, rest, le, same)
            | inr gd ↦ let none = get_or_past holds d 0 gd in let le = get_or-le-sum_by (λ x. x) holds c 0 lt in omega (arith, none, le)
          ]
      | inr ge ↦
          let none = get_or_past holds c 0 ge in
          elim (cases_lt d (length holds)) [
            | inl ld ↦ let le = get_or-le-sum_by (λ x. x) holds d 0 ld in omega (arith, none, le)
            | inr gd ↦ let no = get_or_past holds d 0 gd in omega (arith, none, no)
          ]
    ]

module _ {V T : Type 0} where
  -- with the object of an id at hand, a place's sum on that id is the object's
  sum_of : (n low next c id : ℕ) (live : List (Object V T)) (x : Object V T) → RisesTo n low next live → object_of live id ≡ Some x → holds_sum c id live ≡ holds_of x c
  sum_of n low next c id live x rises at = sym (holds_are_sum n low next c id live rises) ∙ ap (λ o. holds_in o c) at

  -- the object that is found has holds for all places
  found_length : (n low next id : ℕ) (live : List (Object V T)) (x : Object V T) → RisesTo n low next live → object_of live id ≡ Some x → length x.holds ≡ n
  found_length n low next id [] x rises at = absurd cc
  found_length n low next id (o ∷ live) x rises at =
      elim (cases_eq o.id id) [
        | inl e ↦
            let found = rw (eq-eqb o.id id e) at at in
            let is : o ≡ x = cc found in
            rw (← is) rises.1
        | inr ne ↦
            let later = rw (ne_eqb o.id id ne) at at in
            found_length n (o.id + 1) next id live x rises.2 later
      ]

  module _ (n low next : ℕ) (live : List (Object V T)) (rises : RisesTo n low next live) where
    -- a place's holds on the object of an id change
    sum_set :
        (e i : ℕ) (g : Object V T → ℕ) (x : Object V T) → object_of live i ≡ Some x → e < n
        → holds_sum e i (change i (λ o. with_holds e (g o) o) live) ≡ g x
    sum_set e i g x at lt =
        let within : e < length x.holds = omega (arith, lt, found_length n low next i live x rises at) in
        sum_changed n low next e i (λ o. with_holds e (g o) o) live x (λ o. refl) rises at ∙ get_or-set_same x.holds e (g x) 0 within

    -- and those of others, and on other ids, do not
    sum_set_other :
        (c id e i : ℕ) (g : Object V T → ℕ) → (c ≢ e) ⊎ (id ≢ i)
        → holds_sum c id (change i (λ o. with_holds e (g o) o) live) ≡ holds_sum c id live
    sum_set_other c id e i g (inl ne) =
        sum_change c id i (λ o. with_holds e (g o) o) live (λ o. refl) (λ o. get_or-set_other o.holds e c (g o) 0 ne)
    sum_set_other c id e i g (inr ne) = sum_change_other c id i ne (λ o. with_holds e (g o) o) live (λ o. refl)

    -- one hold more of place e on id i
    pub sum_granted :
        (c id e i : ℕ) (x : Object V T) → object_of live i ≡ Some x → e < n
        → holds_sum c id (change i (λ o. with_holds e (holds_of o e + 1) o) live)
        ≡ holds_sum c id live + cond (e == c) (cond (i == id) 1 0) 0
    sum_granted c id e i x at lt =
        elim (cases_eq e c) [
          | inl ec ↦
              elim (cases_eq i id) [
                | inl is ↦
                    let now = sum_set e i (λ o. holds_of o e + 1) x at lt in
                    let was = sum_of n low next e i live x rises at in
                    rw (← ec, ← is, eq-eqb e e refl, eq-eqb i i refl) (omega (arith, now, was))
                | inr ne ↦
                    rw (eq-eqb e c ec, ne_eqb i id ne)
                    (sum_set_other c id e i (λ o. holds_of o e + 1) (inr (λ same. ne (sym same))) ∙ sym (add-zero _))
              ]
          | inr ne ↦
              rw (ne_eqb e c ne) (sum_set_other c id e i (λ o. holds_of o e + 1) (inl (λ same. ne (sym same))) ∙ sym (add-zero _))
        ]

    -- one hold less of place e on id i, which has one
    pub sum_released :
        (c id e i : ℕ) (x : Object V T) → object_of live i ≡ Some x → 1 ≤ holds_of x e → e < n
        → holds_sum c id (change i (λ o. with_holds e (holds_of o e - 1) o) live) + cond (e == c) (cond (i == id) 1 0) 0
        ≡ holds_sum c id live
    sum_released c id e i x at one lt =
        elim (cases_eq e c) [
          | inl ec ↦
              elim (cases_eq i id) [
                | inl is ↦
                    let now = sum_set e i (λ o. holds_of o e - 1) x at lt in
                    let was = sum_of n low next e i live x rises at in
                    rw (← ec, ← is, eq-eqb e e refl, eq-eqb i i refl) (omega (arith, now, was, one))
                | inr ne ↦
                    rw (eq-eqb e c ec, ne_eqb i id ne)
                    (add-zero _ ∙ sum_set_other c id e i (λ o. holds_of o e - 1) (inr (λ same. ne (sym same))))
              ]
          | inr ne ↦
              rw (ne_eqb e c ne) (add-zero _ ∙ sum_set_other c id e i (λ o. holds_of o e - 1) (inl (λ same. ne (sym same))))
        ]

  -- one object more
  pub sum_appended :
      (c id : ℕ) (live : List (Object V T)) (o : Object V T) → holds_sum c id (live ++ o ∷ []) ≡ holds_sum c id live + cond (o.id == id) (holds_of o c) 0
  sum_appended c id [] o = omega arith
  sum_appended c id (x ∷ live) o = let more = sum_appended c id live o in omega (arith, more)

  -- the object of an id is gone, and those of others stay
  sum_without_own : (c id : ℕ) (live : List (Object V T)) → holds_sum c id (without id live) ≡ 0
  sum_without_own c id [] = refl
  sum_without_own c id (o ∷ live) =
      let more = sum_without_own c id live in
      elim (cases_eq o.id id) [
        | inl e ↦ rw (eq-eqb o.id id e) more
        | inr ne ↦ rw (ne_eqb o.id id ne, ne_eqb o.id id ne) (omega (arith, more))
      ]

  sum_without_other : (c id i : ℕ) → id ≢ i → (live : List (Object V T)) → holds_sum c id (without i live) ≡ holds_sum c id live
  sum_without_other c id i ne [] = refl
  sum_without_other c id i ne (o ∷ live) =
      let more = sum_without_other c id i ne live in
      elim (cases_eq o.id i) [
        | inl e ↦
            let not : (o.id == id) ≡ false = ne_eqb o.id id (λ is. ne (sym is ∙ e)) in
            rw (eq-eqb o.id i e, not) (omega (arith, more))
        | inr other ↦ rw (ne_eqb o.id i other) (ap (λ n. cond (o.id == id) (holds_of o c) 0 + n) more)
      ]

  -- where the last hold of place e takes the object of id i back
  pub sum_reclaimed :
      (n low next : ℕ) (live : List (Object V T)) → RisesTo n low next live → (c id e i : ℕ) (x : Object V T) → object_of live i ≡ Some x
      → 1 ≤ holds_of x e → total x ≡ 1
      → holds_sum c id (without i live) + cond (e == c) (cond (i == id) 1 0) 0 ≡ holds_sum c id live
  sum_reclaimed n low next live rises c id e i x at one all =
      elim (cases_eq i id) [
        | inl is ↦
            let gone = sum_without_own c i live in
            let was = sum_of n low next c i live x rises at in
            elim (cases_eq e c) [
              | inl ec ↦
                  let most = item_within x.holds e in
                  rw (← is, ← ec, eq-eqb e e refl, eq-eqb i i refl) (let was' = sum_of n low next e i live x rises at in let gone' = sum_without_own e i live in omega (arith, was', gone', most, one, all))
              | inr ne ↦
                  let two = two_holds x.holds e c (λ same. ne (sym same)) in
                  rw (← is, ne_eqb e c ne) (omega (arith, was, gone, two, one, all))
            ]
        | inr ne ↦
            let same = sum_without_other c id i (λ is. ne (sym is)) live in
            rw (ne_eqb i id ne)
            (ap (λ m. holds_sum c id (without i live) + m) (elim (e == c) as (λ t. ◌≡◌ {A = ℕ} (cond t 0 0) 0) [ true ↦ refl | false ↦ refl ])
            ∙ add-zero _ ∙ same)
      ]
