-- Where the object of an id stands among live objects whose ids rise.
use Rattle.std.proofs.Common.{◌≡◌, ◌≢◌, ℕ, ◌+◌, ◌<◌, zero, suc, true, false, List, [], ◌∷◌, length, take, slice_index_or, inl, inr, refl, sym, ◌∙◌, ap, arith, eq-eqb, ne_eqb, add-one}
use Rattle.std.specs.Prelude.{◌==◌}
use Rattle.std.specs.declared.option.Option.TheVariants.{None, Some}
use Rattle.std.proofs.lemmas.Bool.{cases_eq}
use Rattle.std.proofs.lemmas.List.{get_or_default}
use Rattle.tm_model.specs.State.{Object, change, without, object_of}
use Rattle.tm_reference.specs.Live.{Rises, AreRising, StandsAt}

module _ {V T : Type 0} where
  -- where all ids are greater, nothing changes
  change_none : (n low next id : ℕ) (f : Object V T → Object V T) (live : List (Object V T)) → id < low → Rises n low next live → change id f live ≡ live
  change_none n low next id f [] lt h = refl
  change_none n low next id f (o ∷ live) lt h =
      let ne : o.id ≢ id = omega (arith, h.0) in
      let below : id < o.id + 1 = omega (arith, h.0) in
      let more = change_none n (o.id + 1) next id f live below h.2 in
      rw (ne_eqb o.id id ne) (ap (λ (l : List (Object V T)). o ∷ l) more)

  without_none : (n low next id : ℕ) (live : List (Object V T)) → id < low → Rises n low next live → without id live ≡ live
  without_none n low next id [] lt h = refl
  without_none n low next id (o ∷ live) lt h =
      let ne : o.id ≢ id = omega (arith, h.0) in
      let below : id < o.id + 1 = omega (arith, h.0) in
      let more = without_none n (o.id + 1) next id live below h.2 in
      rw (ne_eqb o.id id ne) (ap (λ (l : List (Object V T)). o ∷ l) more)

  -- an object that was not found in front
  not_first : (id : ℕ) (x : Object V T) (live : List (Object V T)) → object_of (x ∷ live) id ≡ None → (x.id ≢ id) × (object_of live id ≡ None)
  not_first id x live e =
      elim (cases_eq x.id id) [
        | inl is ↦ let found : Some x ≡ None = rw (eq-eqb x.id id is) at e in cc
        | inr ne ↦ (ne, rw (ne_eqb x.id id ne) at e)
      ]

  -- the first object of an id stands where it was found
  pub standing :
      (n low next id i : ℕ) (live : List (Object V T)) (o : Object V T) → Rises n low next live → object_of (take i live) id ≡ None
      → i < length live → ((d : Object V T) → slice_index_or live i d ≡ o) → o.id ≡ id → StandsAt live id i o
  standing n low next id i [] o h none lt here e = absurd (omega (arith, lt))
  standing n low next id zero (x ∷ live) o h none lt here e =
      let is : x ≡ o = here x in
      let named : x.id ≡ id = ap (λ (y : Object V T). y.id) is ∙ e in
      let below : id < x.id + 1 = omega (arith, named) in
      let first : (x.id == id) ≡ true = eq-eqb x.id id named in
      record {
        in_range = lt;
        here = here;
        is_named = e;
        found = rw first (ap (λ (y : Object V T). Some y) is);
        alone = λ f. rw (first, change_none n (x.id + 1) next id f live below h.2) (ap (λ (y : Object V T). f y ∷ live) is);
        others = rw first (without_none n (x.id + 1) next id live below h.2);
      }
  standing n low next id (suc i) (x ∷ live) o h none lt here e =
      let other = not_first id x (take i live) none in
      let rest = standing n (x.id + 1) next id i live o h.2 other.1 (omega (arith, lt)) here e in
      let not_here : (x.id == id) ≡ false = ne_eqb x.id id other.0 in
      record {
        in_range = lt;
        here = here;
        is_named = e;
        found = rw not_here rest.found;
        alone = λ f. rw not_here (ap (λ (l : List (Object V T)). x ∷ l) (rest.alone f));
        others = rw not_here (ap (λ (l : List (Object V T)). x ∷ l) rest.others);
      }

  -- one more object that is not the one
  none_next :
      (id i : ℕ) (live : List (Object V T)) (o : Object V T) → object_of (take i live) id ≡ None → i < length live
      → slice_index_or live i o ≡ o → o.id ≢ id → object_of (take (suc i) live) id ≡ None
  none_next id i [] o none lt here ne = absurd (omega (arith, lt))
  none_next id zero (x ∷ live) o none lt here ne =
      let other : x.id ≢ id = λ e. ne (sym (ap (λ (y : Object V T). y.id) here) ∙ e) in
      rw (ne_eqb x.id id other) refl
  none_next id (suc i) (x ∷ live) o none lt here ne =
      let other = not_first id x (take i live) none in
      let more = none_next id i live o other.1 (omega (arith, lt)) here ne in
      rw (ne_eqb x.id id other.0) more

  pub none_more :
      (id i : ℕ) (live : List (Object V T)) (o : Object V T) → object_of (take i live) id ≡ None → i < length live
      → o ≡ slice_index_or live i o → o.id ≢ id → object_of (take (i + 1) live) id ≡ None
  none_more id i live o none lt here ne = rw add-one (none_next id i live o none lt (sym here) ne)

  -- the object that was read stands there
  pub read_standing :
      (id i : ℕ) (live : List (Object V T)) (o : Object V T) → AreRising live → object_of (take i live) id ≡ None
      → i < length live → o ≡ slice_index_or live i o → o.id ≡ id → (x : Object V T) × StandsAt live id i x
  read_standing id i live o rising none lt here e =
      (o, standing rising.places 1 rising.next id i live o rising.rises none lt (λ d. sym (here ∙ get_or_default live i o d lt)) e)
