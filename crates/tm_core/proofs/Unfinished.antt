-- The number of unfinished launches of a place, where the live objects are joined, mapped, changed or filtered.
-- Other crates import from this file.
use Rattle.std.proofs.Common.{◌≡◌, ◌≢◌, ℕ, ◌+◌, ◌<◌, true, false, cond, List, [], ◌∷◌, ◌++◌, length, map, inl, inr, refl, ap, arith, eq-eqb, ne_eqb}
use Rattle.std.specs.Prelude.{◌==◌}
use Rattle.std.specs.declared.option.Option.TheVariants.{Some}
use Rattle.std.proofs.lemmas.Bool.{cases_eq}
use Rattle.tm_model.specs.State.{Work, Object, total, change, kept, without, object_of}
use Rattle.tm_model.specs.Holds.{works_of, unfinished}
use Rattle.tm_core.proofs.Rising.{RisesTo}

module _ {T : Type 0} where
  pub works_of-append : (c : ℕ) (xs ys : List (Work T)) → works_of c (xs ++ ys) ≡ works_of c xs + works_of c ys
  works_of-append c [] ys = omega arith
  works_of-append c (w ∷ xs) ys = let more = works_of-append c xs ys in omega (arith, more)

  -- there is none where the launches and something else are none
  pub no_works : (c m : ℕ) (ws : List (Work T)) → m + length ws ≡ 0 → works_of c ws ≡ 0
  no_works c m [] e = refl
  no_works c m (w ∷ ws) e = absurd (omega (arith, e))

module _ {V T : Type 0} where
  pub unfinished-append : (c : ℕ) (xs ys : List (Object V T)) → unfinished c (xs ++ ys) ≡ unfinished c xs + unfinished c ys
  unfinished-append c [] ys = omega arith
  unfinished-append c (o ∷ xs) ys = let more = unfinished-append c xs ys in omega (arith, more)

  -- a change of one id that keeps the launches of its object
  pub unfinished_change :
      (c id : ℕ) (f : Object V T → Object V T) (live : List (Object V T)) → ((o : Object V T) → (f o).works ≡ o.works)
      → unfinished c (change id f live) ≡ unfinished c live
  unfinished_change c id f [] same = refl
  unfinished_change c id f (o ∷ live) same =
      let more = unfinished_change c id f live same in
      elim (o.id == id) as (λ t. works_of c (cond t (f o) o).works + unfinished c (change id f live) ≡ works_of c o.works + unfinished c live) [
        | true ↦ rw (same o, more) refl
        | false ↦ ap (λ n. works_of c o.works + n) more
      ]

  -- and one of all objects
  pub unfinished_map :
      (c : ℕ) (f : Object V T → Object V T) (live : List (Object V T)) → ((o : Object V T) → (f o).works ≡ o.works)
      → unfinished c (map f live) ≡ unfinished c live
  unfinished_map c f [] same = refl
  unfinished_map c f (o ∷ live) same = rw (same o, unfinished_map c f live same) refl

  -- objects that go have no launches
  pub unfinished_kept : (c : ℕ) (live : List (Object V T)) → unfinished c (kept live) ≡ unfinished c live
  unfinished_kept c [] = refl
  unfinished_kept c (o ∷ live) =
      let more = unfinished_kept c live in
      elim (cases_eq (total o) 0) [
        | inl e ↦ let none = no_works c _ o.works e in rw (eq-eqb (total o) 0 e) (omega (arith, more, none))
        | inr ne ↦ rw (ne_eqb (total o) 0 ne) (ap (λ n. works_of c o.works + n) more)
      ]

  -- where all ids are greater, no object changes and none goes
  change_above :
      (n low next id : ℕ) (f : Object V T → Object V T) (live : List (Object V T)) → id < low → RisesTo n low next live → change id f live ≡ live
  change_above n low next id f [] lt h = refl
  change_above n low next id f (o ∷ live) lt h =
      let first = h.0 in
      let ne : o.id ≢ id = omega arith in
      rw (ne_eqb o.id id ne) (ap (λ l. o ∷ l) (change_above n (o.id + 1) next id f live (omega arith) h.2))

  without_above : (n low next id : ℕ) (live : List (Object V T)) → id < low → RisesTo n low next live → without id live ≡ live
  without_above n low next id [] lt h = refl
  without_above n low next id (o ∷ live) lt h =
      let first = h.0 in
      let ne : o.id ≢ id = omega arith in
      rw (ne_eqb o.id id ne) (ap (λ l. o ∷ l) (without_above n (o.id + 1) next id live (omega arith) h.2))

  -- the object of an id has other launches
  pub unfinished_changed :
      (n low next c id : ℕ) (f : Object V T → Object V T) (live : List (Object V T)) (x : Object V T)
      → RisesTo n low next live → object_of live id ≡ Some x
      → unfinished c (change id f live) + works_of c x.works ≡ unfinished c live + works_of c (f x).works
  unfinished_changed n low next c id f [] x rises at = absurd cc
  unfinished_changed n low next c id f (o ∷ live) x rises at =
      elim (cases_eq o.id id) [
        | inl e ↦
            let here : (o.id == id) ≡ true = eq-eqb o.id id e in
            let found = rw here at at in
            let is : o ≡ x = cc found in
            let rest : change id f live ≡ live = change_above n (o.id + 1) next id f live (omega (arith, e)) rises.2 in
            rw (here, rest, is) (omega arith)
        | inr ne ↦
            let elsewhere : (o.id == id) ≡ false = ne_eqb o.id id ne in
            let later = rw elsewhere at at in
            let more = unfinished_changed n (o.id + 1) next c id f live x rises.2 later in
            rw elsewhere (omega (arith, more))
      ]

  -- the object of an id goes
  pub unfinished_without :
      (n low next c id : ℕ) (live : List (Object V T)) (x : Object V T) → RisesTo n low next live → object_of live id ≡ Some x
      → unfinished c (without id live) + works_of c x.works ≡ unfinished c live
  unfinished_without n low next c id [] x rises at = absurd cc
  unfinished_without n low next c id (o ∷ live) x rises at =
      elim (cases_eq o.id id) [
        | inl e ↦
            let here : (o.id == id) ≡ true = eq-eqb o.id id e in
            let found = rw here at at in
            let is : o ≡ x = cc found in
            let rest : without id live ≡ live = without_above n (o.id + 1) next id live (omega (arith, e)) rises.2 in
            rw (here, rest, is) (omega arith)
        | inr ne ↦
            let elsewhere : (o.id == id) ≡ false = ne_eqb o.id id ne in
            let later = rw elsewhere at at in
            let more = unfinished_without n (o.id + 1) next c id live x rises.2 later in
            rw elsewhere (omega (arith, more))
      ]
