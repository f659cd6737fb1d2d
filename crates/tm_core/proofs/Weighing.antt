-- `weigh`: a sum over the live objects, where they are filtered, mapped, changed or joined with one more.
use Rattle.std.proofs.Common.{◌≡◌, ◌≢◌, ℕ, ◌+◌, ◌<◌, ◌≤◌, Bool, true, false, cond, List, [], ◌∷◌, ◌++◌, map, filter, inl, inr, refl, ap, arith, eq-eqb, ne_eqb}
use Rattle.std.specs.Prelude.{◌==◌}
use Rattle.std.specs.declared.option.Option.TheVariants.{Some}
use Rattle.std.proofs.lemmas.Bool.{cases_eq}
use Rattle.tm_model.specs.State.{Object, change, object_of}
use Rattle.tm_core.proofs.Rising.{RisesTo}

module _ {V T : Type 0} (g : Object V T → ℕ) where
  -- the sum of g over some objects
  abbrev pub weigh : List (Object V T) → ℕ
  weigh [] = 0
  weigh (o ∷ live) = g o + weigh live

  pub weigh_filter : (p : Object V T → Bool) (live : List (Object V T)) → weigh (filter p live) ≤ weigh live
  weigh_filter p [] = omega arith
  weigh_filter p (o ∷ live) =
      let more = weigh_filter p live in
      elim (p o) as (λ t. weigh (cond t (o ∷ filter p live) (filter p live)) ≤ g o + weigh live) [ true ↦ omega (arith, more) | false ↦ omega (arith, more) ]

  pub weigh_map : (f : Object V T → Object V T) (live : List (Object V T)) → ((o : Object V T) → g (f o) ≡ g o) → weigh (map f live) ≡ weigh live
  weigh_map f [] same = refl
  weigh_map f (o ∷ live) same = let more = weigh_map f live same in let first = same o in omega (arith, more, first)

  pub weigh_change_same :
      (id : ℕ) (f : Object V T → Object V T) (live : List (Object V T)) → ((o : Object V T) → g (f o) ≡ g o) → weigh (change id f live) ≡ weigh live
  weigh_change_same id f live same =
      weigh_map (λ o. cond (o.id == id) (f o) o) live
      (λ o. elim (o.id == id) as (λ t. g (cond t (f o) o) ≡ g o) [ true ↦ same o | false ↦ refl ])

  pub weigh-append : (live : List (Object V T)) (o : Object V T) → weigh (live ++ o ∷ []) ≡ weigh live + g o
  weigh-append [] o = omega arith
  weigh-append (x ∷ live) o = let more = weigh-append live o in omega (arith, more)

  -- an object that is found is a part of the sum
  pub weigh_found : (id : ℕ) (live : List (Object V T)) (x : Object V T) → object_of live id ≡ Some x → g x ≤ weigh live
  weigh_found id [] x at = absurd cc
  weigh_found id (o ∷ live) x at =
      elim (cases_eq o.id id) [
        | inl e ↦
            let here = rw (eq-eqb o.id id e) at at in
            let is : o ≡ x = cc in
            let same = ap g is in
            omega (arith, same)
        | inr ne ↦
            let later = rw (ne_eqb o.id id ne) at at in
            let more = weigh_found id live x later in
            omega (arith, more)
      ]

  weigh_above :
      (n low next id : ℕ) (f : Object V T → Object V T) (live : List (Object V T)) → id < low → RisesTo n low next live → weigh (change id f live) ≡ weigh live
  weigh_above n low next id f [] lt rises = refl
  weigh_above n low next id f (o ∷ live) lt rises =
      let first = rises.0 in
      let ne : o.id ≢ id = omega arith in
      let more = weigh_above n (o.id + 1) next id f live (omega arith) rises.2 in
      rw (ne_eqb o.id id ne) (ap (λ m. g o + m) more)

  -- with ids that rise, a change of an id changes the part of its object
  pub weigh_change :
      (n low next id : ℕ) (f : Object V T → Object V T) (live : List (Object V T)) (x : Object V T) → RisesTo n low next live → object_of live id ≡ Some x
      → weigh (change id f live) + g x ≡ weigh live + g (f x)
  weigh_change n low next id f [] x rises at = absurd cc
  weigh_change n low next id f (o ∷ live) x rises at =
      elim (cases_eq o.id id) [
        | inl e ↦
            let here : (o.id == id) ≡ true = eq-eqb o.id id e in
            let found = rw here at at in
            let is : o ≡ x = cc in
            let rest = weigh_above n (o.id + 1) next id f live (omega (arith, e)) rises.2 in
            let same = ap g is in
            let new = ap (λ y. g (f y)) is in
            let now : weigh (change id f (o ∷ live)) ≡ g (f o) + weigh (change id f live) = ap (λ t. g (cond t (f o) o) + weigh (change id f live)) here in
            omega (arith, rest, same, new, now)
        | inr ne ↦
            let elsewhere : (o.id == id) ≡ false = ne_eqb o.id id ne in
            let later = rw elsewhere at at in
            let more = weigh_change n (o.id + 1) next id f live x rises.2 later in
            let now : weigh (change id f (o ∷ live)) ≡ g o + weigh (change id f live) = ap (λ t. g (cond t (f o) o) + weigh (change id f live)) elsewhere in
            omega (arith, more, now)
      ]
