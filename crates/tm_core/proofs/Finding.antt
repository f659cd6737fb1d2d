-- The object that is found under an id, where the live objects are filtered, mapped, changed or joined with one more.
-- Other crates import from this file.
use Rattle.std.proofs.Common.{◌≡◌, ◌≢◌, ℕ, ◌+◌, ◌<◌, ◌⊎◌, Bool, true, false, not, cond, List, [], ◌∷◌, ◌++◌, length, map, filter, inl, inr, refl, sym, ◌∙◌, ap, subst, arith, eq-eqb, ne_eqb}
use Rattle.std.specs.Prelude.{◌==◌}
use Rattle.std.specs.List.{AllByRecursion}
use Rattle.std.specs.declared.option.Option.TheVariants.{None, Some}
use Rattle.std.proofs.lemmas.Bool.{cases_eq}
use Rattle.tm_model.specs.State.{Object, total, change, kept, object_of}
use Rattle.std.proofs.lemmas.List.Folds.{find-append}
use Rattle.std.specs.Option.{option_or}
use Rattle.tm_core.proofs.Rising.{RisesTo}
use Rattle.tm_core.proofs.Bounds.{rises_end}

pub no_items : {X : Type 0} (xs : List X) → length xs ≡ 0 → xs ≡ []
no_items [] e = refl
no_items (x ∷ xs) e = absurd (omega (arith, e))

module _ {V T : Type 0} where
  pub found_id : (live : List (Object V T)) (id : ℕ) (x : Object V T) → object_of live id ≡ Some x → x.id ≡ id
  found_id [] id x at = absurd cc
  found_id (o ∷ live) id x at =
      elim (cases_eq o.id id) [
        | inl e ↦
            let here = rw (eq-eqb o.id id e) at at in
            let is : o ≡ x = cc in
            subst (λ y. y.id ≡ id) is e
        | inr ne ↦ let later = rw (ne_eqb o.id id ne) at at in found_id live id x later
      ]

  pub found_below : (n low next id : ℕ) (live : List (Object V T)) (x : Object V T) → RisesTo n low next live → object_of live id ≡ Some x → id < next
  found_below n low next id [] x rises at = absurd cc
  found_below n low next id (o ∷ live) x rises at =
      elim (cases_eq o.id id) [
        | inl e ↦ let last = rises_end n (o.id + 1) next live rises.2 in omega (arith, e, last)
        | inr ne ↦ let later = rw (ne_eqb o.id id ne) at at in found_below n (o.id + 1) next id live x rises.2 later
      ]

  -- an id below all has no object
  none_lower : (n low next id : ℕ) (p : Object V T → Bool) (live : List (Object V T)) → id < low → RisesTo n low next live → object_of (filter p live) id ≡ None
  none_lower n low next id p [] lt rises = refl
  none_lower n low next id p (o ∷ live) lt rises =
      let first = rises.0 in
      let ne : o.id ≢ id = omega arith in
      let more = none_lower n (o.id + 1) next id p live (omega arith) rises.2 in
      elim (p o) as (λ t. object_of (cond t (o ∷ filter p live) (filter p live)) id ≡ None) [
        | true ↦ rw (ne_eqb o.id id ne) more
        | false ↦ more
      ]

  -- a filter keeps the object of an id, or loses it
  pub filter_found :
      (n low next id : ℕ) (p : Object V T → Bool) (live : List (Object V T)) (x : Object V T) → RisesTo n low next live → object_of live id ≡ Some x
      → object_of (filter p live) id ≡ cond (p x) (Some x) None
  filter_found n low next id p [] x rises at = absurd cc
  filter_found n low next id p (o ∷ live) x rises at =
      elim (cases_eq o.id id) [
        | inl e ↦
            let here : (o.id == id) ≡ true = eq-eqb o.id id e in
            let at' = rw here at at in
            let is : o ≡ x = cc in
            let none = none_lower n (o.id + 1) next id p live (omega (arith, e)) rises.2 in
            let own : object_of (cond (p o) (o ∷ filter p live) (filter p live)) id ≡ cond (p o) (Some o) None =
            elim (p o) as (λ t. object_of (cond t (o ∷ filter p live) (filter p live)) id ≡ cond t (Some o) None) [
              | true ↦ rw here refl
              | false ↦ none
            ] in
            own ∙ ap (λ y. cond (p y) (Some y) None) is
        | inr ne ↦
            let elsewhere : (o.id == id) ≡ false = ne_eqb o.id id ne in
            let later = rw elsewhere at at in
            let more = filter_found n (o.id + 1) next id p live x rises.2 later in
            elim (p o) as (λ t. object_of (cond t (o ∷ filter p live) (filter p live)) id ≡ cond (p x) (Some x) None) [
              | true ↦ rw elsewhere more
              | false ↦ more
            ]
      ]

  pub filter_none : (id : ℕ) (p : Object V T → Bool) (live : List (Object V T)) → object_of live id ≡ None → object_of (filter p live) id ≡ None
  filter_none id p [] at = refl
  filter_none id p (o ∷ live) at =
      elim (cases_eq o.id id) [
        | inl e ↦ let here = rw (eq-eqb o.id id e) at at in absurd cc
        | inr ne ↦
            let elsewhere : (o.id == id) ≡ false = ne_eqb o.id id ne in
            let later = rw elsewhere at at in
            let more = filter_none id p live later in
            elim (p o) as (λ t. object_of (cond t (o ∷ filter p live) (filter p live)) id ≡ None) [
              | true ↦ rw elsewhere more
              | false ↦ more
            ]
      ]

  -- an object that goes has no unfinished launch
  pub kept_found :
      (n low next id : ℕ) (live : List (Object V T)) (x : Object V T) → RisesTo n low next live → object_of live id ≡ Some x
      → ((object_of (kept live) id ≡ None) × (x.works ≡ [])) ⊎ (object_of (kept live) id ≡ Some x)
  kept_found n low next id live x rises at =
      let is = filter_found n low next id (λ o. not (total o == 0)) live x rises at in
      elim (cases_eq (total x) 0) [
        | inl e ↦
            let test : not (total x == 0) ≡ false = ap not (eq-eqb (total x) 0 e) in
            inl (is ∙ ap (λ t. cond t (Some x) None) test, no_items x.works (omega (arith, e)))
        | inr ne ↦
            let test : not (total x == 0) ≡ true = ap not (ne_eqb (total x) 0 ne) in
            inr (is ∙ ap (λ t. cond t (Some x) None) test)
      ]

  -- a change of all objects
  pub map_found :
      (id : ℕ) (f : Object V T → Object V T) (live : List (Object V T)) (x : Object V T) → ((o : Object V T) → (f o).id ≡ o.id)
      → object_of live id ≡ Some x → object_of (map f live) id ≡ Some (f x)
  map_found id f [] x same at = absurd cc
  map_found id f (o ∷ live) x same at =
      elim (cases_eq o.id id) [
        | inl e ↦
            let at' = rw (eq-eqb o.id id e) at at in
            let is : o ≡ x = cc in
            let test : ((f o).id == id) ≡ true = eq-eqb (f o).id id (same o ∙ e) in
            ap (λ t. cond t (Some (f o)) (object_of (map f live) id)) test ∙ ap (λ y. Some (f y)) is
        | inr ne ↦
            let later = rw (ne_eqb o.id id ne) at at in
            let test : ((f o).id == id) ≡ false = ne_eqb (f o).id id (λ is. ne (sym (same o) ∙ is)) in
            ap (λ t. cond t (Some (f o)) (object_of (map f live) id)) test ∙ map_found id f live x same later
      ]

  pub map_none :
      (id : ℕ) (f : Object V T → Object V T) (live : List (Object V T)) → ((o : Object V T) → (f o).id ≡ o.id)
      → object_of live id ≡ None → object_of (map f live) id ≡ None
  map_none id f [] same at = refl
  map_none id f (o ∷ live) same at =
      elim (cases_eq o.id id) [
        | inl e ↦ let here = rw (eq-eqb o.id id e) at at in absurd cc
        | inr ne ↦
            let later = rw (ne_eqb o.id id ne) at at in
            let test : ((f o).id == id) ≡ false = ne_eqb (f o).id id (λ is. ne (sym (same o) ∙ is)) in
            ap (λ t. cond t (Some (f o)) (object_of (map f live) id)) test ∙ map_none id f live same later
      ]

  same_id : (i : ℕ) (f : Object V T → Object V T) → ((o : Object V T) → (f o).id ≡ o.id) → (o : Object V T) → (cond (o.id == i) (f o) o).id ≡ o.id
  same_id i f same o = elim (o.id == i) as (λ t. (cond t (f o) o).id ≡ o.id) [ true ↦ same o | false ↦ refl ]

  -- a change of one id
  pub change_found :
      (id i : ℕ) (f : Object V T → Object V T) (live : List (Object V T)) (x : Object V T) → ((o : Object V T) → (f o).id ≡ o.id)
      → object_of live id ≡ Some x
      → ((i ≡ id) × (object_of (change i f live) id ≡ Some (f x))) ⊎ ((i ≢ id) × (object_of (change i f live) id ≡ Some x))
  change_found id i f live x same at =
      let is = map_found id (λ o. cond (o.id == i) (f o) o) live x (same_id i f same) at in
      let own = found_id live id x at in
      elim (cases_eq i id) [
        | inl e ↦ inl (e, is ∙ ap (λ t. Some (cond t (f x) x)) (eq-eqb x.id i (own ∙ sym e)))
        | inr ne ↦ inr (ne, is ∙ ap (λ t. Some (cond t (f x) x)) (ne_eqb x.id i (λ e. ne (sym e ∙ own))))
      ]

  pub change_none :
      (id i : ℕ) (f : Object V T → Object V T) (live : List (Object V T)) → ((o : Object V T) → (f o).id ≡ o.id)
      → object_of live id ≡ None → object_of (change i f live) id ≡ None
  change_none id i f live same at = map_none id (λ o. cond (o.id == i) (f o) o) live (same_id i f same) at

  -- one object more
  pub append_found : (live : List (Object V T)) (o : Object V T) (id : ℕ) (x : Object V T) → object_of live id ≡ Some x → object_of (live ++ o ∷ []) id ≡ Some x
  append_found live o id x at = find-append (λ y. y.id == id) live (o ∷ []) ∙ ap (λ y. option_or y (object_of (o ∷ []) id)) at

  pub append_none : (live : List (Object V T)) (o : Object V T) (id : ℕ) → object_of live id ≡ None → object_of (live ++ o ∷ []) id ≡ cond (o.id == id) (Some o) None
  append_none live o id at = find-append (λ y. y.id == id) live (o ∷ []) ∙ ap (λ y. option_or y (object_of (o ∷ []) id)) at

  -- what holds of all holds of the one that is found
  pub all_found : (P : Object V T → Type 0) (id : ℕ) (live : List (Object V T)) (x : Object V T) → object_of live id ≡ Some x → AllByRecursion P live → P x
  all_found P id [] x at h = absurd cc
  all_found P id (o ∷ live) x at h =
      elim (cases_eq o.id id) [
        | inl e ↦
            let here = rw (eq-eqb o.id id e) at at in
            let is : o ≡ x = cc in
            subst P is h.0
        | inr ne ↦ let later = rw (ne_eqb o.id id ne) at at in all_found P id live x later h.1
      ]
