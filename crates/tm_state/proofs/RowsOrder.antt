-- In a sound state ids rise, so that an id names one object.
use Rattle.std.proofs.Common.{◌≡◌, ℕ, ◌+◌, ◌<◌, ◌≤◌, List, [], ◌∷◌, length, map, inl, inr, refl, sym, ap, arith, eq-eqb, ne_eqb}
use Rattle.std.specs.List.{AllByRecursion}
use Rattle.std.specs.List.Sorted.{IsStrictlySortedBy}
use Rattle.std.specs.declared.cmp.Ordering.TheVariants.{Less}
use Rattle.std.specs.declared.option.Option.TheVariants.{None, Some}
use Rattle.std.specs.Ordering.{nat_cmp}
use Rattle.std.specs.Cmp.{ranked}
use Rattle.std.proofs.lemmas.Bool.{cases_eq}
use Rattle.std.proofs.lemmas.Map.Keys.{sorted_from_strictly_increasing}
use Rattle.tm_model.specs.State.{Object, State, place_count, change, object_of}
use Rattle.tm_model.specs.Laws.{IsSound, IsSoundObject}
use Rattle.tm_core.proofs.CallerLemmas.{all_weaker, all_both, option_cases}
use Rattle.tm_core.proofs.Finding.{found_below}
use Rattle.tm_core.proofs.Rising.{RisesTo}
use Rattle.tm_core.proofs.Bounds.{rises_all}
use Rattle.tm_core.proofs.Ordered.{IsOrdered}

module _ {V T : Type 0} where
  -- an id of a list that is sorted behind it is below each
  above_first : (id : ℕ) (live : List (Object V T)) → AllByRecursion (λ i. nat_cmp id i ≡ Less) (map (λ o. o.id) live) → AllByRecursion (λ o. id < o.id) live
  above_first id [] h = tt
  above_first id (o ∷ live) h = (ranked id o.id Less (sym h.0), above_first id live h.1)

  -- ids that are sorted rise
  rises_from :
      (n low next : ℕ) (live : List (Object V T)) → IsStrictlySortedBy nat_cmp (map (λ o. o.id) live)
      → AllByRecursion (λ o. ((low ≤ o.id) × (o.id < next)) × (length o.holds ≡ n)) live → low ≤ next → RisesTo n low next live
  unfolding IsStrictlySortedBy
  rises_from n low next [] sorted h le = le
  rises_from n low next (o ∷ live) sorted h le =
      let first = h.0.0 in
      let above = all_both (λ x. o.id < x.id) _ live (above_first o.id live sorted.0) h.1 in (
        first.0,
        h.0.1,
        rises_from n (o.id + 1) next live sorted.1
            (all_weaker _ (λ x. ((o.id + 1 ≤ x.id) × (x.id < next)) × (length x.holds ≡ n)) live (λ x k. let lt = k.0 in ((omega arith, k.1.0.1), k.1.1)) above)
            (omega (arith, first.1)),
      )

  -- the object of an id is the only one that has it
  pub alone :
      (n low next id : ℕ) (live : List (Object V T)) (x : Object V T) → RisesTo n low next live → object_of live id ≡ Some x
      → AllByRecursion (λ o. o.id ≡ id → o ≡ x) live
  alone n low next id [] x rises at = tt
  alone n low next id (o ∷ live) x rises at =
      elim (cases_eq o.id id) [
        | inl e ↦
            let here = rw (eq-eqb o.id id e) at at in
            let is : o ≡ x = cc here in (
              λ named. is,
              all_weaker _ _ live (λ y k named. absurd (let l = k.0.0 in omega (arith, l, e, named))) (rises_all n (o.id + 1) next live rises.2),
            )
        | inr ne ↦
            let later = rw (ne_eqb o.id id ne) at at in
            (λ named. absurd (ne named), alone n (o.id + 1) next id live x rises.2 later)
      ]

  -- two changes that do alike to each object of the id are alike
  pub change_same :
      (id : ℕ) (f g : Object V T → Object V T) (live : List (Object V T)) → AllByRecursion (λ o. o.id ≡ id → f o ≡ g o) live
      → change id f live ≡ change id g live
  change_same id f g [] h = refl
  change_same id f g (o ∷ live) h =
      let more = change_same id f g live h.1 in
      elim (cases_eq o.id id) [
        | inl e ↦ rw (eq-eqb o.id id e, h.0 e, more) refl
        | inr ne ↦ rw (ne_eqb o.id id ne, more) refl
      ]

module _ {V O R T : Type 0} where
  pub sound_ordered : (opening s : State V O R T) → IsSound opening s → IsOrdered (place_count opening.setup) s
  sound_ordered opening s h =
      let low = h.next_id.0 in
      record {
        rises = rises_from (place_count opening.setup) 1 s.next_id s.live (sorted_from_strictly_increasing (map (λ o. o.id) s.live) h.ids)
            (all_weaker (IsSoundObject opening s) _ s.live (λ o k. (k.id, k.places)) h.objects) low;
        places = h.places;
        count = ap (λ x. place_count x) h.setup;
      }

  -- the next id is not live
  pub fresh_id : (opening s : State V O R T) → IsSound opening s → object_of s.live s.next_id ≡ None
  fresh_id opening s h =
      elim (option_cases (object_of s.live s.next_id)) [
        | inl none ↦ none
        | inr is ↦ absurd (let lt = found_below (place_count opening.setup) 1 s.next_id s.next_id s.live is.0 (sound_ordered opening s h).rises is.1 in omega (arith, lt))
      ]
