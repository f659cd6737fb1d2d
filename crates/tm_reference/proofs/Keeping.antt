-- What a reference trustee keeps: ids rise, and there are as many places.
use Rattle.std.proofs.Common.{◌≡◌, ℕ, ◌+◌, ◌<◌, ◌≤◌, zero, suc, Bool, true, false, cond, List, [], ◌∷◌, ◌++◌, length, length-set, append-nil, take, drop, map, filter, slice_index_or, slice_set, sym, ◌∙◌, ap, subst, arith}
use Rattle.std.specs.List.{AllByRecursion, remove}
use Rattle.std.proofs.lemmas.List.{take_all, drop_all}
use Rattle.tm_model.specs.State.{Object, Place, with_holds}
use Rattle.tm_reference.specs.Live.{Rises, Holds}
use Rattle.tm_reference.specs.Kept.{IsKept}

-- a change of each element, where none is left
pub mapped_all : {X : Type 0} (f : X → X) (xs ys : List X) (i : ℕ) → length xs ≤ i → ys ≡ map f (take i xs) ++ drop i xs → ys ≡ map f xs
mapped_all f xs ys i le h = (rw (take_all i xs le, drop_all i xs le) at h) ∙ append-nil (map f xs)

pub all_more : {X : Type 0} (P : X → Type 0) (xs : List X) (x : X) → AllByRecursion P xs → P x → AllByRecursion P (xs ++ x ∷ [])
all_more P [] x h p = (p, tt)
all_more P (y ∷ xs) x h p = (h.0, all_more P xs x h.1 p)

module _ {V T : Type 0} where
  -- the launches of an object are of n places
  abbrev pub ArePlaced : ℕ → Object V T → Type 0
  ArePlaced n o = AllByRecursion (λ w. w.place < n) o.works

  pub same_works : (n : ℕ) (x y : Object V T) → y.works ≡ x.works → ArePlaced n x → ArePlaced n y
  same_works n x y e h = subst (AllByRecursion (λ w. w.place < n)) (sym e) h

  rises_lower : (n low lower next : ℕ) (live : List (Object V T)) → lower ≤ low → Rises n low next live → Rises n lower next live
  rises_lower n low lower next [] le h = omega (arith, le, h)
  rises_lower n low lower next (o ∷ live) le h = (omega (arith, le, h.0), h.1, h.2)

  -- an object is changed in place, and keeps its id
  rises_set :
      (n low next i : ℕ) (live : List (Object V T)) (x y : Object V T) → Rises n low next live → x ≡ slice_index_or live i x → y.id ≡ x.id
      → (ArePlaced n x → ArePlaced n y) → Rises n low next (slice_set live i y)
  rises_set n low next i [] x y h at same placed = h
  rises_set n low next zero (o ∷ live) x y h at same placed =
      let named : y.id ≡ o.id = same ∙ ap (λ (z : Object V T). z.id) at in
      rw named (h.0, placed (subst (ArePlaced n) (sym at) h.1), h.2)
  rises_set n low next (suc i) (o ∷ live) x y h at same placed = (h.0, h.1, rises_set n (o.id + 1) next i live x y h.2 at same placed)

  rises_filter : (n low next : ℕ) (p : Object V T → Bool) (live : List (Object V T)) → Rises n low next live → Rises n low next (filter p live)
  rises_filter n low next p [] h = h
  rises_filter n low next p (o ∷ live) h =
      let more = rises_filter n (o.id + 1) next p live h.2 in
      elim (p o) as (λ t. Rises n low next (cond t (o ∷ filter p live) (filter p live))) [
        | true ↦ (h.0, h.1, more)
        | false ↦ rises_lower n (o.id + 1) low next (filter p live) (omega (arith, h.0)) more
      ]

  rises_map :
      (n low next c : ℕ) (live : List (Object V T)) → Rises n low next live → Rises n low next (map (with_holds c 0) live)
  rises_map n low next c [] h = h
  rises_map n low next c (o ∷ live) h = (h.0, h.1, rises_map n (o.id + 1) next c live h.2)

  rises-append :
      (n low next : ℕ) (live : List (Object V T)) (o : Object V T) → o.id ≡ next → o.works ≡ [] → Rises n low next live
      → Rises n low (next + 1) (live ++ o ∷ [])
  rises-append n low next [] o e none h = (omega (arith, e, h), rw none tt, omega (arith, e))
  rises-append n low next (x ∷ live) o e none h = (h.0, h.1, rises-append n (x.id + 1) next live o e none h.2)

module _ {V O R T : Type 0} where
  pub kept_set :
      (count next i : ℕ) (places : List (Place V O R T)) (live : List (Object V T)) (x y : Object V T)
      → IsKept count next places live → x ≡ slice_index_or live i x → y.id ≡ x.id → (ArePlaced count x → ArePlaced count y)
      → IsKept count next places (slice_set live i y)
  kept_set count next i places live x y k at same placed =
      record { rises = rises_set count 1 next i live x y k.rises at same placed; as_many = k.as_many }

  -- an object is changed in place, and keeps its id and its launches
  pub kept_same :
      (count next i : ℕ) (places : List (Place V O R T)) (live : List (Object V T)) (x y : Object V T)
      → IsKept count next places live → x ≡ slice_index_or live i x → y.id ≡ x.id → y.works ≡ x.works
      → IsKept count next places (slice_set live i y)
  kept_same count next i places live x y k at same works = kept_set count next i places live x y k at same (same_works count x y works)

  pub kept_place :
      (count next d : ℕ) (places : List (Place V O R T)) (p : Place V O R T) (live : List (Object V T))
      → IsKept count next places live → IsKept count next (slice_set places d p) live
  kept_place count next d places p live k = record { rises = k.rises; as_many = rw length-set k.as_many }

  pub kept_filter :
      (count next : ℕ) (places : List (Place V O R T)) (live new : List (Object V T)) (p : Object V T → Bool)
      → IsKept count next places live → new ≡ filter p live → IsKept count next places new
  kept_filter count next places live new p k e =
      record { rises = rw e (rises_filter count 1 next p live k.rises); as_many = k.as_many }

  pub kept_map :
      (count next c : ℕ) (places : List (Place V O R T)) (live : List (Object V T))
      → IsKept count next places live → IsKept count next places (map (with_holds c 0) live)
  kept_map count next c places live k =
      record { rises = rises_map count 1 next c live k.rises; as_many = k.as_many }

  pub kept_more :
      (count next : ℕ) (places : List (Place V O R T)) (live new : List (Object V T)) (o : Object V T)
      → IsKept count next places live → o.id ≡ next → o.works ≡ [] → new ≡ live ++ o ∷ [] → IsKept count (next + 1) places new
  kept_more count next places live new o k named none e =
      record { rises = rw e (rises-append count 1 next live o named none k.rises); as_many = k.as_many }

  -- the object of an id was taken out
  pub kept_removed :
      (count next : ℕ) (places : List (Place V O R T)) (live from : List (Object V T)) {new : List (Object V T)} → live ≡ from → (c id i : ℕ)
      → IsKept count next places from → Holds live c id i → new ≡ remove from i → IsKept count next places new
  kept_removed count next places live from same c id i k h e =
      let held : Holds from c id i = subst (λ (l : List (Object V T)). Holds l c id i) same h in
      kept_filter count next places from _ _ k (e ∙ sym held.1.others)
