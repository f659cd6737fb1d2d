-- What the trustees of a store with one client open with: each class at its place, and trustee 0 holds them all.
use Rattle.std.proofs.Common.{◌≡◌, ◌≢◌, ℕ, zero, suc, ◌+◌, ◌-◌, ◌%◌, ◌<◌, ◌≤◌, true, false, cond, List, [], ◌∷◌, ◌++◌, length, map, refl, sym, ◌∙◌, ap, arith, eq-eqb, ne_eqb}
use Rattle.std.specs.Prelude.{◌==◌, nat_lt, slice_get, slice_index_or}
use Rattle.std.specs.List.{AllByRecursion, filter, range_with_len}
use Rattle.std.specs.declared.option.Option.TheVariants.{Some}
use Rattle.std.proofs.lemmas.Bool.{lt-ltb}
use Rattle.std.proofs.lemmas.Nat.{mod_below}
use Rattle.std.proofs.lemmas.List.FromFn.{get_or-map-range_with_len}
use Rattle.tm_seq.specs.declared.sum.Sum.TheVariants as sum
use Rattle.tm_batch.specs.declared.config.First.{First}
use Rattle.tm_model.specs.Opening.{is_named, placed_on, ids_naming, ids_at, opened, opening_of}
use Rattle.tm_model.specs.State.{Object, ids_above, object_of}
use Rattle.mc_item.specs.declared.limits.TheConstants.{CLASSES}
use Rattle.mc_model.specs.Class.{new_class}
use Rattle.mc_route.specs.declared.desk.Desk.{Desk}
use Rattle.mc_route.specs.Places.{StoreValue, trustee_of, index_of, first_shard, first_desk, store_first}
use Rattle.mc_route.specs.Laws.{ClassesAreFound}
use Rattle.mc_next.specs.Parts.{StoreTask}
use Rattle.mc_next.specs.Works.{StoreState}
use Rattle.mc_solo.specs.Serving.{store_config}

-- the state in which trustee t of so many opens
abbrev pub opening : ℕ → ℕ → ℕ → StoreState
opening trustees bound t = opening_of t (store_config 1 trustees) (store_first 1 trustees bound)

-- ---- objects of a build

module _ {V T : Type 0} where
  -- the object of the i-th of some that are opened
  pub opened_at : (places k i : ℕ) (fs : List (First V)) (f : First V) → slice_get fs i ≡ Some f
      → (o : Object V T) × (object_of (opened places k fs) (k + i) ≡ Some o) × (o.value ≡ f.value)
  opened_at places k i [] f e = absurd cc
  opened_at places k zero (x ∷ fs) f e =
      let same : x ≡ f = cc in
      let here : k ≡ k + 0 = omega arith in
      let o : Object V T = record { id = k; value = x.value; holds = map (λ c. cond (is_named c x) 1 0) (range_with_len 0 places); works = [] } in
      (o, ap (λ t. cond t (Some o) (object_of (opened places (k + 1) fs) (k + 0))) (eq-eqb k (k + 0) here), ap (λ (y : First V). y.value) same)
  opened_at places k (suc i) (x ∷ fs) f e =
      let (o, at, value) = opened_at places (k + 1) i fs f e in
      let apart : k ≢ k + suc i = λ same. omega (arith, same) in
      let next : (k + 1) + i ≡ k + suc i = omega arith in
      let own : Object V T = record { id = k; value = x.value; holds = map (λ c. cond (is_named c x) 1 0) (range_with_len 0 places); works = [] } in
      (o, ap (λ t. cond t (Some own) (object_of (opened places (k + 1) fs) (k + suc i))) (ne_eqb k (k + suc i) apart) ∙ ap (object_of (opened places (k + 1) fs)) (sym next) ∙ at, value)

module _ {V : Type 0} where
  -- the numbers of objects that all name a place
  pub named_at : (c k i : ℕ) (fs : List (First V)) (f : First V) → AllByRecursion (λ f. is_named c f ≡ true) fs → slice_get fs i ≡ Some f
      → (i < length (ids_naming c k fs)) × (slice_index_or (ids_naming c k fs) i 0 ≡ k + i)
  named_at c k i [] f all e = absurd cc
  named_at c k zero (x ∷ fs) f all e = rw all.0 (omega arith, omega arith)
  named_at c k (suc i) (x ∷ fs) f all e =
      let (lt, is) = named_at c (k + 1) i fs f all.1 e in
      rw all.0 (omega (arith, lt), is ∙ (let next : (k + 1) + i ≡ k + suc i = omega arith in next))

-- ---- those of the store

module _ (trustees bound : ℕ) where
  -- the objects on another trustee than 0 are held by trustee 0, whose place is 1
  named_there : (t : ℕ) → 1 ≤ t → (k n : ℕ)
      → AllByRecursion (λ f. is_named 1 f ≡ true) (filter (λ f. f.trustee == t) (map (first_shard 1 trustees bound) (range_with_len k n) ++ first_desk 1 ∷ []))
  named_there t above k zero = rw (ne_eqb 0 t (λ e. omega (arith, above, e))) tt
  named_there t above k (suc n) =
      let rest = named_there t above (k + 1) n in
      elim (trustee_of k trustees == t) as
      (λ b. AllByRecursion (λ f. is_named 1 f ≡ true) (cond b (first_shard 1 trustees bound k ∷ filter (λ f. f.trustee == t) (map (first_shard 1 trustees bound) (range_with_len (k + 1) n) ++ first_desk 1 ∷ []))
      (filter (λ f. f.trustee == t) (map (first_shard 1 trustees bound) (range_with_len (k + 1) n) ++ first_desk 1 ∷ [])))) [
        | true ↦ (refl, rest)
        | false ↦ rest
      ]

  module _ (found : ClassesAreFound) (fewest : 2 ≤ trustees) where
    pub trustee_within : (class : ℕ) → (1 ≤ trustee_of class trustees) × (trustee_of class trustees < trustees)
    trustee_within class =
        let less : class % (trustees - 1) < trustees - 1 = mod_below class (trustees - 1) (omega (arith, fewest)) in
        (omega arith, omega (arith, less, fewest))

    -- the object of a class where it opens
    pub class_opens : (class : ℕ) → class < CLASSES
        → (o : Object StoreValue StoreTask) × (object_of (opening trustees bound (trustee_of class trustees)).live (index_of class trustees + 1) ≡ Some o) × (o.value ≡ sum.First (new_class class 0 bound))
    class_opens class below =
        let t = trustee_of class trustees in
        let at = found 1 trustees bound class fewest below in
        let (o, is, value) = opened_at (1 + t) 1 (index_of class trustees) (placed_on t (store_first 1 trustees bound)) (first_shard 1 trustees bound class) at in
        let place : 1 + index_of class trustees ≡ index_of class trustees + 1 = omega arith in
        (o, ap (object_of (opened (1 + t) 1 (placed_on t (store_first 1 trustees bound)))) (sym place) ∙ is, value)

    -- what trustee 0 holds at another one
    ids_are : (t : ℕ) → 1 ≤ t → t < trustees → ids_above (opening trustees bound 0).setup t ≡ ids_at t 1 (store_first 1 trustees bound)
    ids_are t above below =
        get_or-map-range_with_len (λ u. cond (nat_lt 0 u) (ids_at u 1 (store_first 1 trustees bound)) []) 0 trustees t t [] below (omega arith)
        ∙ ap (λ b. cond b (ids_at t 1 (store_first 1 trustees bound)) []) (lt-ltb 0 t above)

    pub class_held : (class : ℕ) → class < CLASSES
        → (index_of class trustees < length (ids_above (opening trustees bound 0).setup (trustee_of class trustees)))
        × (slice_index_or (ids_above (opening trustees bound 0).setup (trustee_of class trustees)) (index_of class trustees) 0 ≡ index_of class trustees + 1)
    class_held class below =
        let t = trustee_of class trustees in
        let (above, within) = trustee_within class in
        let at = found 1 trustees bound class fewest below in
        let (lt, is) = named_at 1 1 (index_of class trustees) (placed_on t (store_first 1 trustees bound)) (first_shard 1 trustees bound class) (named_there t above 0 64) at in
        rw (ids_are t above within) (lt, is ∙ (let place : 1 + index_of class trustees ≡ index_of class trustees + 1 = omega arith in place))

    -- trustee 0 has the desk, and no class
    desk_only : (k n : ℕ) → filter (λ f. f.trustee == 0) (map (first_shard 1 trustees bound) (range_with_len k n) ++ first_desk 1 ∷ []) ≡ first_desk 1 ∷ []
    desk_only k zero = refl
    desk_only k (suc n) = rw (ne_eqb (trustee_of k trustees) 0 (λ e. let above = (trustee_within k).0 in omega (arith, e, above))) (desk_only (k + 1) n)

    pub desk_is : (o : Object StoreValue StoreTask) × (d : Desk) × (object_of (opening trustees bound 0).live 1 ≡ Some o) × (o.value ≡ sum.Second d)
    desk_is =
        let at : slice_get (placed_on 0 (store_first 1 trustees bound)) 0 ≡ Some (first_desk 1) = ap (λ l. slice_get l 0) (desk_only 0 64) in
        let (o, is, value) = opened_at 1 1 0 (placed_on 0 (store_first 1 trustees bound)) (first_desk 1) at in
        (o, record { done = 0 }, is, value)
