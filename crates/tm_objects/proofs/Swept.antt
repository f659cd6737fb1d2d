-- Lemmas on slots from which a place has gone.
use Rattle.std.proofs.Common.{◌≡◌, ℕ, ◌<◌, ◌≤◌, Bool, true, false, cond, List, length, set, Option, Some, None, refl, sym, ap, ◌∙◌, inl, inr, arith, lit<, length-set}
use Rattle.std.specs.Prelude.{map, option_map}
use Rattle.std.proofs.lemmas.Bool.{cases_eq, ne_eqb}
use Rattle.std.proofs.lemmas.List.{set-get_or}
use Rattle.slab.specs.Slab.{Slab, get, slab_len, with_value, Updates}
use Rattle.tm_objects.specs.Live.{Live, total, holds_of, is_held, with_holds, kept}
use Rattle.tm_objects.specs.Listing.{seek, listed, AreApart, IsSound, if_held, if_held_beside, Settles}
use Rattle.tm_objects.specs.Counted.{is_in, with_flag, has_hold, AreCounted}
use Rattle.tm_objects.proofs.Lists.{kept_if, map-listed, filter-listed}
use Rattle.tm_objects.proofs.Seeks.{seek-found, seek-slot, seek-absent}
use Rattle.tm_objects.proofs.Sound.{if_held-is, sound_settle, updates_after, len-with_value}
use Rattle.tm_objects.proofs.Counted.{flag_here, flag_beside, hold_set, place_within, key_within, counted_settle}

module _ {V : Type 0} where
  -- what a slot has when a place has gone, unless the place is yet to go from it
  abbrev pub beside_past : ℕ → Bool → Option (Live V) → Option (Live V)
  beside_past c yet x = cond yet x (if_held_beside c x)

  beside-is : (c : ℕ) (x : Option (Live V)) (q : Live V) → if_held_beside c x ≡ Some q → (o : Live V) × (x ≡ Some o) × (q.id ≡ o.id)
  beside-is c None q h = absurd (cc)
  beside-is c (Some o) q h = (o, refl, if_held-is (with_holds c 0 o) q h)

  -- a place has gone from all slots
  pub swept_listed :
      (old new : Slab (Live V)) (c n : ℕ) → AreApart old.slots → AreApart new.slots → ((j : ℕ) → get new j ≡ if_held_beside c (get old j))
      → listed (seek new.slots) n ≡ kept (map (λ o. with_holds c 0 o) (listed (seek old.slots) n))
  swept_listed old new c n apart apart' h =
      filter-listed mid (seek new.slots) is_held n (λ i. by i (seek old.slots i) refl) ∙ ap kept (map-listed (seek old.slots) mid (λ o. with_holds c 0 o) n (λ i. refl))
    where
      mid : ℕ → Option (Live V)
      mid i = option_map (λ o. with_holds c 0 o) (seek old.slots i)

      from : (l i : ℕ) (q : Live V) → get new l ≡ Some q → q.id ≡ i → (o : Live V) × (get old l ≡ Some o) × (o.id ≡ i)
      from l i q e same = let b = beside-is c (get old l) q (sym (h l) ∙ e) in (b.0, b.1, sym b.2 ∙ same)

      going : (i k : ℕ) (o : Live V) → get old k ≡ Some o → o.id ≡ i → (b : Bool) → is_held (with_holds c 0 o) ≡ b → seek new.slots i ≡ if_held (with_holds c 0 o)
      going i k o there same true e =
          let at : get new k ≡ Some (with_holds c 0 o) = h k ∙ rw (there, e) refl in
          let f = seek-found new.slots k (with_holds c 0 o) apart' at in
          ap (seek new.slots) (sym same) ∙ (f ∙ rw e refl)
      going i k o there same false e =
          let at : get new k ≡ None = h k ∙ rw (there, e) refl in
          seek-absent new.slots i (λ l q g s.
          let b = from l i q g s in
          let lk : l ≡ k = apart l k b.0 o b.1 there (b.2 ∙ sym same) in
          let n : None ≡ Some q = sym at ∙ (ap (get new) (sym lk) ∙ g) in cc)
          ∙ rw e refl

      by : (i : ℕ) (x : Option (Live V)) → seek old.slots i ≡ x → seek new.slots i ≡ kept_if is_held (option_map (λ o. with_holds c 0 o) (seek old.slots i))
      by i None e =
          rw e (seek-absent new.slots i (λ l q g s.
          let b = from l i q g s in
          let f : seek old.slots i ≡ Some b.0 = ap (seek old.slots) (sym b.2) ∙ seek-found old.slots l b.0 apart b.1 in
          let n : None ≡ Some b.0 = sym e ∙ f in cc))
      by i (Some o) e = let s = seek-slot old.slots i o e in rw e (going i s.0 o s.1 s.2 (is_held (with_holds c 0 o)) refl)

  -- a place leaves a slot on which it has no hold
  beside_none : (c : ℕ) (x : Option (Live V)) → has_hold x c ≡ false → ((o : Live V) → x ≡ Some o → 0 < total o) → x ≡ if_held_beside c x
  beside_none c None e held = refl
  beside_none c (Some o) e held =
      let z : holds_of o c ≡ 0 = elim (cases_eq (holds_of o c) 0) [ inl z ↦ z | inr n ↦ absurd (let t : true ≡ false = rw (ne_eqb (holds_of o c) 0 n) at e in cc) ] in
      let same : with_holds c 0 o ≡ o = ap (λ (l : List ℕ). record o { holds = l }) (ap (λ (n : ℕ). set o.holds c n) (sym z) ∙ set-get_or o.holds c 0) in
      let on : if_held o ≡ Some o = rw (ne_eqb (total o) 0 (λ e. let h = held o refl in omega arith)) refl in
      sym (ap (λ (p : Live V). if_held p) same ∙ on)

  -- before a place goes from any slot it is yet to go from those that it holds
  pub swept_none :
      {slab : Slab (Live V)} {held : List (List Bool)} {rows : List (List ℕ)} {room given most places : ℕ} → IsSound slab rows room given most places → AreCounted slab held places
      → (c j : ℕ) → get slab j ≡ beside_past c (is_in held c j) (get slab j)
  swept_none {slab} {held} sound counted c j = by (is_in held c j) refl
    where
      by : (b : Bool) → is_in held c j ≡ b → get slab j ≡ beside_past c (is_in held c j) (get slab j)
      by true e = rw e refl
      by false e = rw e (beside_none c (get slab j) (sym (counted.members c j) ∙ e) (λ o there. (sound.standing j o there).held))

  -- a place goes from one slot more
  pub swept_step :
      {slab : Slab (Live V)} {held : List (List Bool)} {rows : List (List ℕ)} {room given most places : ℕ} (sound : IsSound slab rows room given most places) (counted : AreCounted slab held places)
      (first new : Slab (Live V)) (more : List (List ℕ)) (c key : ℕ) (o : Live V) → c < places → get slab key ≡ Some o → is_in held c key ≡ true
      → ((j : ℕ) → get slab j ≡ beside_past c (is_in held c j) (get first j)) → Settles (with_value slab key (with_holds c 0 o)) new rows more key (with_holds c 0 o)
      → IsSound new more room given most places × AreCounted new (with_flag c key false held) places
      × ((j : ℕ) → get new j ≡ beside_past c (is_in (with_flag c key false held) c j) (get first j)) × (slab_len new ≤ slab_len slab)
  swept_step {slab} {held} {rows} {room} {given} {most} {places} sound counted first new more c key o within there was done settles = (
    sound_settle slab new rows more room given most places sound key o (with_holds c 0 o) there refl (length-set o.holds c 0 ∙ wide) settles,
    counted_settle counted key o there c within (with_holds c 0 o) 0 false refl (lit< tt) (sym (hold_set o c 0 (omega (arith, wide, within)))) settles,
    λ j. elim (cases_eq j key) [
      | inl jk ↦
          let gone : is_in (with_flag c key false held) c j ≡ false = ap (λ l. is_in (with_flag c key false held) c l) jk ∙ flag_here held c key false (place_within counted key o there c within) (key_within counted key o there c within) in
          let here : get first key ≡ Some o = sym (done key ∙ rw was refl) ∙ there in
          ap (get new) jk ∙ (u.changed ∙ rw (gone, jk, here) refl)
      | inr ne ↦
          let yet : is_in (with_flag c key false held) c j ≡ is_in held c j = flag_beside held c key j false (place_within counted key o there c within) ne in
          u.others j ne ∙ (done j ∙ rw yet refl)
    ],
    omega (arith, settles.len, len-with_value slab key o (with_holds c 0 o) there),
  )
    where
      wide : length o.holds ≡ places
      wide = (sound.standing key o there).width

      u : Updates slab new key (if_held (with_holds c 0 o))
      u = updates_after slab new key o (with_holds c 0 o) (if_held (with_holds c 0 o)) there settles.updates
