-- Lemmas on slots whose objects have different ids.
use Rattle.std.proofs.Common.{◌≡◌, ◌≢◌, ℕ, zero, suc, List, [], ◌∷◌, get_or, Option, Some, None, refl, sym, ap, ◌∙◌, inl, inr, arith}
use Rattle.std.proofs.lemmas.Bool.{cases_eq, eq-eqb, ne_eqb}
use Rattle.slab.specs.Slab.{Slab, get, Updates}
use Rattle.tm_objects.specs.Live.{Live}
use Rattle.tm_objects.specs.Listing.{seek, AreApart}

module _ {V : Type 0} where
  apart_rest : (x : Option (Live V)) (rest : List (Option (Live V))) → AreApart (x ∷ rest) → AreApart rest
  apart_rest x rest h j k o p ej ek e = let s : suc j ≡ suc k = h (suc j) (suc k) o p ej ek e in omega arith

  -- what a slot has is found at its id
  pub seek-found : (slots : List (Option (Live V))) (k : ℕ) (o : Live V) → AreApart slots → get_or slots k None ≡ Some o → seek slots o.id ≡ Some o
  unfolding seek
  seek-found [] k o apart h = absurd (cc)
  seek-found (None ∷ rest) zero o apart h = absurd (cc)
  seek-found (None ∷ rest) (suc k) o apart h = seek-found rest k o (apart_rest None rest apart) h
  seek-found (Some p ∷ rest) zero o apart h =
      let e : p ≡ o = cc in rw (e, eq-eqb o.id o.id refl) refl
  seek-found (Some p ∷ rest) (suc k) o apart h =
      let ne : p.id ≢ o.id = λ e. let z : zero ≡ suc k = apart zero (suc k) p o refl h e in omega arith in
      rw (ne_eqb p.id o.id ne) (seek-found rest k o (apart_rest (Some p) rest apart) h)

  -- an id that no slot has is not found
  pub seek-absent : (slots : List (Option (Live V))) (i : ℕ) → ((k : ℕ) (o : Live V) → get_or slots k None ≡ Some o → o.id ≢ i) → seek slots i ≡ None
  unfolding seek
  seek-absent [] i h = refl
  seek-absent (None ∷ rest) i h = seek-absent rest i (λ k o e. h (suc k) o e)
  seek-absent (Some p ∷ rest) i h = rw (ne_eqb p.id i (h zero p refl)) (seek-absent rest i (λ k o e. h (suc k) o e))

  -- what is found stands in a slot, and has the id
  pub seek-slot : (slots : List (Option (Live V))) (i : ℕ) (o : Live V) → seek slots i ≡ Some o → (k : ℕ) × (get_or slots k None ≡ Some o) × (o.id ≡ i)
  unfolding seek
  seek-slot [] i o h = absurd (cc)
  seek-slot (None ∷ rest) i o h = let s = seek-slot rest i o h in (suc s.0, s.1, s.2)
  seek-slot (Some p ∷ rest) i o h =
      elim (cases_eq p.id i) [
        | inl e ↦ let same : p ≡ o = let g : Some p ≡ Some o = rw (eq-eqb p.id i e) at h in cc in (zero, ap Some same, ap (λ x. x.id) (sym same) ∙ e)
        | inr ne ↦ let s = seek-slot rest i o (rw (ne_eqb p.id i ne) at h) in (suc s.0, s.1, s.2)
      ]

  -- the slot k changes, which alone has or gets the id j
  pub record OnlyAt (old new : Slab (Live V)) (k j : ℕ) (slot : Option (Live V)) : Type 0 where
    pub updates : Updates old new k slot
    pub apart : AreApart old.slots
    pub alone : (l : ℕ) (o : Live V) → get old l ≡ Some o → o.id ≡ j → l ≡ k
    pub was : (o : Live V) → get old k ≡ Some o → o.id ≡ j
    pub is : (o : Live V) → slot ≡ Some o → o.id ≡ j

  pub apart-updated : (old new : Slab (Live V)) (k j : ℕ) (slot : Option (Live V)) → OnlyAt old new k j slot → AreApart new.slots
  apart-updated old new k j slot h a b o p ea eb e =
      elim (cases_eq a k) [
        | inl ak ↦ elim (cases_eq b k) [
          | inl bk ↦ ak ∙ sym bk
          | inr bn ↦
              let oj : o.id ≡ j = h.is o (sym h.updates.changed ∙ (sym (ap (get new) ak) ∙ ea)) in
              absurd (bn (h.alone b p (sym (h.updates.others b bn) ∙ eb) (sym e ∙ oj)))
        ]
        | inr an ↦ elim (cases_eq b k) [
          | inl bk ↦
              let pj : p.id ≡ j = h.is p (sym h.updates.changed ∙ (sym (ap (get new) bk) ∙ eb)) in
              absurd (an (h.alone a o (sym (h.updates.others a an) ∙ ea) (e ∙ pj)))
          | inr bn ↦ h.apart a b o p (sym (h.updates.others a an) ∙ ea) (sym (h.updates.others b bn) ∙ eb) e
        ]
      ]

  -- at the id j the new slot is found, at every other what was
  pub seek-there : (old new : Slab (Live V)) (k j : ℕ) (slot : Option (Live V)) → OnlyAt old new k j slot → seek new.slots j ≡ slot
  seek-there old new k j None h =
      seek-absent new.slots j (λ l o e same.
      elim (cases_eq l k) [
        | inl lk ↦ let n : None ≡ Some o = sym h.updates.changed ∙ (sym (ap (get new) lk) ∙ e) in cc
        | inr ln ↦ ln (h.alone l o (sym (h.updates.others l ln) ∙ e) same)
      ])
  seek-there old new k j (Some o) h =
      ap (seek new.slots) (sym (h.is o refl)) ∙ seek-found new.slots k o (apart-updated old new k j (Some o) h) h.updates.changed

  others_found :
      (old new : Slab (Live V)) (k j : ℕ) (slot : Option (Live V)) → OnlyAt old new k j slot → (i : ℕ) → i ≢ j
      → (x : Option (Live V)) → seek old.slots i ≡ x → seek new.slots i ≡ x
  others_found old new k j slot h i ne None found =
      seek-absent new.slots i (λ l o e same.
      elim (cases_eq l k) [
        | inl lk ↦ ne (sym same ∙ h.is o (sym h.updates.changed ∙ (sym (ap (get new) lk) ∙ e)))
        | inr ln ↦
            let f : seek old.slots i ≡ Some o = ap (seek old.slots) (sym same) ∙ seek-found old.slots l o h.apart (sym (h.updates.others l ln) ∙ e) in
            let n : None ≡ Some o = sym found ∙ f in cc
      ])
  others_found old new k j slot h i ne (Some o) found =
      let s = seek-slot old.slots i o found in
      let sk : s.0 ≢ k = λ e. ne (sym s.2 ∙ h.was o (ap (get old) (sym e) ∙ s.1)) in
      ap (seek new.slots) (sym s.2) ∙ seek-found new.slots s.0 o (apart-updated old new k j slot h) (h.updates.others s.0 sk ∙ s.1)

  pub seek-others : (old new : Slab (Live V)) (k j : ℕ) (slot : Option (Live V)) → OnlyAt old new k j slot → (i : ℕ) → i ≢ j → seek new.slots i ≡ seek old.slots i
  seek-others old new k j slot h i ne = others_found old new k j slot h i ne (seek old.slots i) refl
