-- The object of an id, in a state and in the stock that it has.
use Rattle.std.proofs.Common.{◌≡◌, ℕ, ◌<◌, ◌≤◌, List, [], ◌∷◌, length, map, inl, inr, refl, sym, ◌∙◌, ap, subst, arith, eq-eqb, ne_eqb}
use Rattle.std.specs.declared.option.Option.TheVariants.{Some}
use Rattle.std.specs.Option.{IsSome, IsSomeAnd}
use Rattle.std.proofs.lemmas.Bool.{cases_eq}
use Rattle.std.proofs.lemmas.List.{length-map}
use Rattle.tm_batch.specs.declared.message.Request.{Request}
use Rattle.tm_model.specs.State.{Object, Place, State, place_count, object_of, holds_of, HasObject, IsHeld}
use Rattle.tm_model.specs.Holds.{Names}
use Rattle.tm_objects.specs.Live.{Live, HasLive}
use Rattle.tm_objects.specs.Live as live
use Rattle.tm_objects.specs.Stock.{Stock}
use Rattle.tm_objects.specs.Standing.{live_of}
use Rattle.tm_core.proofs.CallerLemmas.{found}
use Rattle.tm_state.specs.StateView.{StateView}
use Rattle.tm_state.specs.Represents.{Keeps}
use Rattle.tm_state.specs.Asking.{IsAsked}

module _ {V T : Type 0} where
  -- an object that is found is found in the stock
  pub found_alike :
      (objects : List (Object V T)) (id : ℕ) (o : Object V T) → object_of objects id ≡ Some o
      → live.object_of (map live_of objects) id ≡ Some (live_of o)
  found_alike [] id o at = absurd cc
  found_alike (x ∷ objects) id o at =
      elim (cases_eq x.id id) [
        | inl e ↦
            let here = rw (eq-eqb x.id id e) at at in
            let is : x ≡ o = cc here in
            rw (eq-eqb x.id id e) (ap (λ (y : Object V T). Some (live_of y)) is)
        | inr ne ↦ let later = rw (ne_eqb x.id id ne) at at in rw (ne_eqb x.id id ne) (found_alike objects id o later)
      ]

module _ {V O R T : Type 0} where
  -- the object of an id that a place holds, in a state and in the stock that represents it
  pub record HeldAt (s : State V O R T) (h : StateView V O R T) (c id : ℕ) : Type 0 where
    pub object : Object V T
    pub found : object_of s.live id ≡ Some object
    pub has : live.object_of h.stock.live id ≡ Some (live_of object)
    pub held : 1 ≤ holds_of object c

  pub held_at : {opening s : State V O R T} {c : ℕ} {q : Request V O R T} {h : StateView V O R T} (id : ℕ) → Names q id → IsAsked opening s c q h → HeldAt s h c id
  held_at {s = s} {c = c} {h = h} id named asked =
      let (o, at, held) = found (object_of s.live id) (λ o. 1 ≤ holds_of o c) (asked.may.held id named) in
      record {
        object = o;
        found = at;
        has = ap (λ (x : Stock V). live.object_of x.live id) asked.keeps.stock ∙ found_alike s.live id o at;
        held = held;
      }

  module _ {s : State V O R T} {h : StateView V O R T} {c id : ℕ} (at : HeldAt s h c id) where
    -- what holds of that object holds of the one of the id
    pub of_object : (P : Object V T → Type 0) → P at.object → HasObject s id P
    of_object P p = subst (λ x. IsSomeAnd x P) (sym at.found) p

    pub of_live : (P : Live V → Type 0) → P (live_of at.object) → HasLive h.stock.live id P
    of_live P p = subst (λ x. IsSomeAnd x P) (sym at.has) p

    pub is_live : IsSome (live.object_of h.stock.live id)
    is_live = subst (λ x. IsSome x) (sym at.has) refl

    -- and the way back
    pub from_live : (P : Live V → Type 0) → HasLive h.stock.live id P → P (live_of at.object)
    from_live P p = subst (λ x. IsSomeAnd x P) at.has p

    pub is_held : IsHeld s c id
    is_held = of_object (λ o. 1 ≤ holds_of o c) at.held

  -- a place is one of those whose gifts are kept
  pub place_within : {s : State V O R T} {h : StateView V O R T} → Keeps s h → (d : ℕ) → d < length s.places → d < length h.stock.gifts
  place_within {s} {h} k d lt =
      let long : length h.stock.gifts ≡ length s.places = ap (λ (x : Stock V). length x.gifts) k.stock ∙ length-map s.places (λ (p : Place V O R T). p.gifts) in
      omega (arith, long, lt)

  pub asker_within : {opening s : State V O R T} {c : ℕ} {q : Request V O R T} {h : StateView V O R T} → IsAsked opening s c q h → c < length s.places
  asker_within asked =
      let e = ap (λ x. place_count x) asked.sound.setup in
      omega (arith, asked.sound.places, asked.may.in_range, e)
