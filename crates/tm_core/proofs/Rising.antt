-- `RisesTo`: live objects with rising ids; and `holds_sum`, the holds of a place on an id, where they change.
-- Other crates import from this file.
use Rattle.std.proofs.Common.{◌≡◌, ◌≢◌, ℕ, ◌+◌, ◌<◌, ◌≤◌, Bool, true, false, cond, List, [], ◌∷◌, ◌++◌, length, map, filter, slice_index_or, slice_set, sum, get_or-set_same, get_or-set_other, inl, inr, refl, sym, ◌∙◌, ap, arith, eq-eqb, ne_eqb}
use Rattle.std.specs.Prelude.{◌==◌}
use Rattle.std.specs.declared.option.Option.TheVariants.{Some}
use Rattle.std.proofs.lemmas.Bool.{cases_eq, cases_lt}
use Rattle.std.proofs.lemmas.List.{get_or_past, set_past}
use Rattle.std.proofs.lemmas.List.Sums.{get_or-le-sum_by}
use Rattle.tm_model.specs.State.{Object, holds_of, with_holds, total, change, kept, object_of, holds_in}

cond_none : (t : Bool) (n : ℕ) → n ≡ 0 → cond t n 0 ≡ 0
cond_none true n e = e
cond_none false n e = refl

-- no hold where all holds and launches are none
no_hold : (holds : List ℕ) (c m : ℕ) → sum holds + m ≡ 0 → slice_index_or holds c 0 ≡ 0
no_hold holds c m e =
    elim (cases_lt c (length holds)) [
      | inl lt ↦ let le = get_or-le-sum_by (λ x. x) holds c 0 lt in omega (arith, le, e)
      | inr ge ↦ get_or_past holds c 0 ge
    ]

module _ {V T : Type 0} where
  -- ids rise from `low` up to `next`, and each object has holds for n places
  abbrev pub RisesTo : ℕ → ℕ → ℕ → List (Object V T) → Type 0
  RisesTo n low next [] = low ≤ next
  RisesTo n low next (o ∷ live) = (low ≤ o.id) × (length o.holds ≡ n) × RisesTo n (o.id + 1) next live

  rises_lower : (n low lower next : ℕ) (live : List (Object V T)) → lower ≤ low → RisesTo n low next live → RisesTo n lower next live
  rises_lower n low lower next [] le h = omega (arith, le, h)
  rises_lower n low lower next (o ∷ live) le h = let first = h.0 in (omega arith, h.1, h.2)

  -- a change that keeps the id and the number of places
  pub rises_change :
      (n low next id : ℕ) (f : Object V T → Object V T) (live : List (Object V T))
      → ((o : Object V T) → (f o).id ≡ o.id) → ((o : Object V T) → length (f o).holds ≡ length o.holds)
      → RisesTo n low next live → RisesTo n low next (change id f live)
  rises_change n low next id f [] same holds h = h
  rises_change n low next id f (o ∷ live) same holds h =
      let more = rises_change n (o.id + 1) next id f live same holds h.2 in
      elim (o.id == id) as
      (λ t. let x = cond t (f o) o in (low ≤ x.id) × (length x.holds ≡ n) × RisesTo n (x.id + 1) next (change id f live)) [
        | true ↦ rw (same o) (h.0, holds o ∙ h.1, more)
        | false ↦ (h.0, h.1, more)
      ]

  pub rises_filter :
      (n low next : ℕ) (p : Object V T → Bool) (live : List (Object V T)) → RisesTo n low next live → RisesTo n low next (filter p live)
  rises_filter n low next p [] h = h
  rises_filter n low next p (o ∷ live) h =
      let more = rises_filter n (o.id + 1) next p live h.2 in
      elim (p o) as (λ t. RisesTo n low next (cond t (o ∷ filter p live) (filter p live))) [
        | true ↦ (h.0, h.1, more)
        | false ↦ rises_lower n (o.id + 1) low next (filter p live) (let first = h.0 in omega arith) more
      ]

  pub rises-append :
      (n low next : ℕ) (live : List (Object V T)) (o : Object V T) → o.id ≡ next → length o.holds ≡ n
      → RisesTo n low next live → RisesTo n low (next + 1) (live ++ o ∷ [])
  rises-append n low next [] o e holds h = (omega (arith, e, h), holds, omega (arith, e))
  rises-append n low next (x ∷ live) o e holds h = (h.0, h.1, rises-append n (x.id + 1) next live o e holds h.2)

  -- the holds of a place on all objects of an id
  abbrev pub holds_sum : ℕ → ℕ → List (Object V T) → ℕ
  holds_sum c id [] = 0
  holds_sum c id (o ∷ live) = cond (o.id == id) (holds_of o c) 0 + holds_sum c id live

  none_above : (n low next c id : ℕ) (live : List (Object V T)) → id < low → RisesTo n low next live → holds_sum c id live ≡ 0
  none_above n low next c id [] lt h = refl
  none_above n low next c id (o ∷ live) lt h =
      let first = h.0 in
      let more = none_above n (o.id + 1) next c id live (omega arith) h.2 in
      let ne : o.id ≢ id = omega arith in
      rw (ne_eqb o.id id ne) (omega (arith, more))

  -- with ids that rise, the one live object of an id has them all
  pub holds_are_sum : (n low next c id : ℕ) (live : List (Object V T)) → RisesTo n low next live → holds_in (object_of live id) c ≡ holds_sum c id live
  holds_are_sum n low next c id [] h = refl
  holds_are_sum n low next c id (o ∷ live) h =
      elim (cases_eq o.id id) [
        | inl e ↦
            let rest = none_above n (o.id + 1) next c id live (omega (arith, e)) h.2 in
            rw (eq-eqb o.id id e) (omega (arith, rest))
        | inr ne ↦
            let more = holds_are_sum n (o.id + 1) next c id live h.2 in
            rw (ne_eqb o.id id ne) (omega (arith, more))
      ]

  -- a change that keeps ids and a place's holds keeps its sums
  pub sum_change :
      (c id i : ℕ) (f : Object V T → Object V T) (live : List (Object V T))
      → ((o : Object V T) → (f o).id ≡ o.id) → ((o : Object V T) → holds_of (f o) c ≡ holds_of o c)
      → holds_sum c id (change i f live) ≡ holds_sum c id live
  sum_change c id i f [] same holds = refl
  sum_change c id i f (o ∷ live) same holds =
      let more = sum_change c id i f live same holds in
      elim (o.id == i) as
      (λ t. let x = cond t (f o) o in
      cond (x.id == id) (holds_of x c) 0 + holds_sum c id (change i f live) ≡ cond (o.id == id) (holds_of o c) 0 + holds_sum c id live) [
        | true ↦ rw (same o, holds o, more) refl
        | false ↦ ap (λ n. cond (o.id == id) (holds_of o c) 0 + n) more
      ]

  -- a change of one id keeps the sums of the others
  pub sum_change_other :
      (c id i : ℕ) → id ≢ i → (f : Object V T → Object V T) (live : List (Object V T)) → ((o : Object V T) → (f o).id ≡ o.id)
      → holds_sum c id (change i f live) ≡ holds_sum c id live
  sum_change_other c id i ne f [] same = refl
  sum_change_other c id i ne f (o ∷ live) same =
      let more = sum_change_other c id i ne f live same in
      elim (cases_eq o.id i) [
        | inl e ↦
            let not : (o.id == id) ≡ false = ne_eqb o.id id (λ is. ne (sym is ∙ e)) in
            rw (eq-eqb o.id i e, same o, not) (ap (λ n. 0 + n) more)
        | inr other ↦ rw (ne_eqb o.id i other) (ap (λ n. cond (o.id == id) (holds_of o c) 0 + n) more)
      ]

  none_above_change :
      (n low next c id : ℕ) (f : Object V T → Object V T) (live : List (Object V T)) → id < low → RisesTo n low next live
      → holds_sum c id (change id f live) ≡ 0
  none_above_change n low next c id f [] lt h = refl
  none_above_change n low next c id f (o ∷ live) lt h =
      let first = h.0 in
      let more = none_above_change n (o.id + 1) next c id f live (omega arith) h.2 in
      let ne : o.id ≢ id = omega arith in
      let elsewhere : (o.id == id) ≡ false = ne_eqb o.id id ne in
      rw (elsewhere, elsewhere) (omega (arith, more))

  -- the object of an id that changes has its new holds
  pub sum_changed :
      (n low next c id : ℕ) (f : Object V T → Object V T) (live : List (Object V T)) (x : Object V T)
      → ((o : Object V T) → (f o).id ≡ o.id) → RisesTo n low next live → object_of live id ≡ Some x
      → holds_sum c id (change id f live) ≡ holds_of (f x) c
  sum_changed n low next c id f [] x same rises at = absurd cc
  sum_changed n low next c id f (o ∷ live) x same rises at =
      elim (cases_eq o.id id) [
        | inl e ↦
            let here : (o.id == id) ≡ true = eq-eqb o.id id e in
            let found = rw here at at in
            let is : o ≡ x = cc found in
            let rest = none_above_change n (o.id + 1) next c id f live (omega (arith, e)) rises.2 in
            rw (here, same o, here, is) (omega (arith, rest))
        | inr ne ↦
            let elsewhere : (o.id == id) ≡ false = ne_eqb o.id id ne in
            let later = rw elsewhere at at in
            let more = sum_changed n (o.id + 1) next c id f live x same rises.2 later in
            rw (elsewhere, elsewhere) (omega (arith, more))
      ]

  -- objects that go hold nothing
  pub sum_kept : (c id : ℕ) (live : List (Object V T)) → holds_sum c id (kept live) ≡ holds_sum c id live
  sum_kept c id [] = refl
  sum_kept c id (o ∷ live) =
      let more = sum_kept c id live in
      elim (cases_eq (total o) 0) [
        | inl e ↦
            let none : holds_of o c ≡ 0 = no_hold o.holds c (length o.works) e in
            let first : cond (o.id == id) (holds_of o c) 0 ≡ 0 = cond_none (o.id == id) (holds_of o c) none in
            rw (eq-eqb (total o) 0 e) (omega (arith, more, first))
        | inr ne ↦ rw (ne_eqb (total o) 0 ne) (ap (λ n. cond (o.id == id) (holds_of o c) 0 + n) more)
      ]

  -- where a place gives all up, it holds nothing, and the others hold what they held
  pub sum_closed : (c id : ℕ) (live : List (Object V T)) → holds_sum c id (map (λ o. with_holds c 0 o) live) ≡ 0
  sum_closed c id [] = refl
  sum_closed c id (o ∷ live) =
      let more = sum_closed c id live in
      let none : slice_index_or (slice_set o.holds c 0) c 0 ≡ 0 =
      elim (cases_lt c (length o.holds)) [
        | inl lt ↦ get_or-set_same o.holds c 0 0 lt
        | inr ge ↦ rw (set_past o.holds c 0 ge) (get_or_past o.holds c 0 ge)
      ] in
      let first : cond (o.id == id) (slice_index_or (slice_set o.holds c 0) c 0) 0 ≡ 0 = cond_none (o.id == id) _ none in
      omega (arith, more, first)

  pub sum_closed_other : (c d id : ℕ) → d ≢ c → (live : List (Object V T)) → holds_sum d id (map (λ o. with_holds c 0 o) live) ≡ holds_sum d id live
  sum_closed_other c d id ne [] = refl
  sum_closed_other c d id ne (o ∷ live) =
      let more = sum_closed_other c d id ne live in
      let same : slice_index_or (slice_set o.holds c 0) d 0 ≡ slice_index_or o.holds d 0 = get_or-set_other o.holds c d 0 0 ne in
      rw (same, more) refl

  pub rises_map :
      (n low next : ℕ) (f : Object V T → Object V T) (live : List (Object V T))
      → ((o : Object V T) → (f o).id ≡ o.id) → ((o : Object V T) → length (f o).holds ≡ length o.holds)
      → RisesTo n low next live → RisesTo n low next (map f live)
  rises_map n low next f [] same holds h = h
  rises_map n low next f (o ∷ live) same holds h =
      let more = rises_map n (o.id + 1) next f live same holds h.2 in
      rw (same o) (h.0, holds o ∙ h.1, more)
