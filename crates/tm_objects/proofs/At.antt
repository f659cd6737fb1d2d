-- Lemmas on one object among sound slots, as the calls on all live objects need them.
use Rattle.std.proofs.Common.{◌≡◌, ◌≢◌, ℕ, ◌+◌, ◌<◌, ◌≤◌, List, [], ◌∷◌, ◌++◌, length, get_or, set, Option, Some, None, refl, sym, ap, subst, ◌∙◌, inl, inr, arith, length-append, length-set}
use Rattle.std.specs.Prelude.{sum, replicate, IsSome, IsSomeAnd, All}
use Rattle.std.proofs.lemmas.Bool.{cases_eq}
use Rattle.std.proofs.lemmas.List.{get_or-replicate, length-replicate}
use Rattle.std.proofs.lemmas.List.Sums.{sum_by-set}
use Rattle.std.proofs.lemmas.List.Elements.{All-pop}
use Rattle.slab.specs.Slab.{Slab, get, Updates, slab_len, with_value}
use Rattle.slab.proofs.SlabLemmas.{Updates-with_value}
use Rattle.tm_objects.specs.Live.{Live, LiveList, total, object_of, change, kept, holds_of, first_held}
use Rattle.tm_objects.specs.Listing.{seek, listed, IsStanding, IsSound, if_held, Settles}
use Rattle.tm_objects.proofs.Lists.{same-listed, listed-more, listed-none}
use Rattle.tm_objects.proofs.Seeks.{OnlyAt, seek-there, seek-others, apart-updated}
use Rattle.tm_objects.proofs.Sound.{found_object, slot_of_object, change_listed, settle_listed, len-with_value, sound_change, updates_after, zero_counts}

-- what an option with a value has
pub some_has : {X : Type 0} (x : Option X) (P : X → Type 0) → IsSomeAnd x P → (o : X) × (x ≡ Some o) × P o
some_has None P h = absurd h
some_has (Some o) P h = (o, refl, h)

pub some_is : {X : Type 0} (x : Option X) → IsSome x → (o : X) × (x ≡ Some o)
some_is None h = absurd (cc)
some_is (Some o) h = (o, refl)

-- a sum after a count changes
pub sum-set : (xs : List ℕ) (i n : ℕ) → i < length xs → sum (set xs i n) + get_or xs i 0 ≡ sum xs + n
sum-set xs i n h = sum_by-set (λ (x : ℕ). x) xs i n 0 h

-- where one hold is all that is left, its row without it counts no holds
pub one_hold : {V : Type 0} (o : Live V) (c places : ℕ) → total o ≡ 1 → 1 ≤ holds_of o c → c < length o.holds → length o.holds ≡ places → set o.holds c 0 ≡ replicate places 0
one_hold o c places one held within wide =
    let s = sum-set o.holds c 0 within in
    zero_counts (set o.holds c 0) (omega (arith, s)) ∙ ap (λ (n : ℕ). replicate n 0) (length-set o.holds c 0 ∙ wide)

-- a new object is held once
pub first_total : {V : Type 0} (id : ℕ) (v : V) (places c : ℕ) → c < places → 0 < total (first_held id v places c)
first_total id v places c within =
    let s = sum-set (replicate places 0) c 1 (rw length-replicate within) in
    let z = get_or-replicate {A = ℕ} places c 0 0 within in
    omega (arith, s, z)

-- no objects, with a spare row for each that may come
pub sound_none :
    {V : Type 0} (slab : Slab (Live V)) (rows : List (List ℕ)) (room most places : ℕ) → slab.slots ≡ [] → length rows ≡ most
    → All (λ row. row ≡ replicate places 0) rows → most ≤ slab.capacity → most ≤ room → IsSound slab rows room 0 most places
sound_none {V} slab rows room most places none len blank slots fits = record {
  standing = λ k o e. let n : None ≡ Some o = sym (ap (λ (s : List (Option (Live V))). get_or s k None) none) ∙ e in absurd (cc);
  apart = λ j k o p e. let n : None ≡ Some o = sym (ap (λ (s : List (Option (Live V))). get_or s j None) none) ∙ e in absurd (cc);
  blank = blank;
  count = rw none (omega (arith, len));
  slots = slots;
  room = fits;
  whole = rw (none, listed-none (seek {V = V} [])) refl;
}

-- what a slot has, where it is known
pub named_at : {V : Type 0} (x : Option (Live V)) (id : ℕ) (o : Live V) → x ≡ Some o → IsSomeAnd x (λ p. p.id ≡ id) → o.id ≡ id
named_at x id o e h = rw e at h

-- a list of live objects with others in their place
pub live_is : {V : Type 0} (s t : LiveList V) (l : List (Live V)) (F : List (Live V) → List (Live V)) → s ≡ t → l ≡ F s.live → record s { live = l } ≡ record t { live = F t.live }
live_is {V} s t l F e h = ap (λ (m : List (Live V)). record s { live = m }) h ∙ ap (λ (u : LiveList V). record u { live = F u.live }) e

module _ {V : Type 0} {slab : Slab (Live V)} {rows : List (List ℕ)} {room given most places : ℕ} (sound : IsSound slab rows room given most places) where
  -- an object that is live stands in a slot
  pub slot_there : (live : List (Live V)) (id : ℕ) → listed (seek slab.slots) given ≡ live → IsSome (object_of live id) → (k : ℕ) × IsSomeAnd (get slab k) (λ o. o.id ≡ id)
  slot_there live id e h =
      let o = some_is (object_of live id) h in
      let s = slot_of_object slab rows room given most places sound id o.0 (ap (λ (l : List (Live V)). object_of l id) e ∙ o.1) in
      (s.0, rw s.1 s.2)

  pub slot_has : (live : List (Live V)) (id : ℕ) (P : Live V → Type 0) → listed (seek slab.slots) given ≡ live → IsSomeAnd (object_of live id) P → (k : ℕ) × IsSomeAnd (get slab k) (λ o. o.id ≡ id)
  slot_has live id P e h =
      let o = some_has (object_of live id) P h in
      slot_there live id e (rw o.1 refl)

  -- the object in a slot is that of its id
  pub found_at : (live : List (Live V)) (id k : ℕ) (o : Live V) → listed (seek slab.slots) given ≡ live → get slab k ≡ Some o → o.id ≡ id → object_of live id ≡ Some o
  found_at live id k o e there same =
      ap (λ (l : List (Live V)). object_of l id) (sym e)
      ∙ (ap (λ (i : ℕ). object_of (listed (seek slab.slots) given) i) (sym same) ∙ found_object slab rows room given most places sound k o there)

  -- an id that no slot has is not live
  pub absent_at : (live : List (Live V)) (id : ℕ) → listed (seek slab.slots) given ≡ live → ((k : ℕ) (o : Live V) → get slab k ≡ Some o → o.id ≢ id) → object_of live id ≡ None
  absent_at live id e h = by (object_of live id) refl
    where
      by : (x : Option (Live V)) → object_of live id ≡ x → object_of live id ≡ None
      by None g = g
      by (Some o) g =
          let s = slot_of_object slab rows room given most places sound id o (ap (λ (l : List (Live V)). object_of l id) e ∙ g) in
          absurd (h s.0 o s.1 s.2)

  -- an object is written that goes on standing
  pub sound_write : (k : ℕ) (o p : Live V) → get slab k ≡ Some o → p.id ≡ o.id → length p.holds ≡ length o.holds → 0 < total p → IsSound (with_value slab k p) rows room given most places
  sound_write k o p there same wide held =
      let s = sound.standing k o there in
      sound_change slab (with_value slab k p) rows room given most places sound k o p there same
      (record { positive = rw same s.positive; upto = rw same s.upto; width = wide ∙ s.width; held = held })
      (Updates-with_value slab k p (rw there refl)) (len-with_value slab k o p there) refl

  pub write_listed :
      (live : List (Live V)) (id k : ℕ) (o p : Live V) (f : Live V → Live V) → listed (seek slab.slots) given ≡ live → get slab k ≡ Some o → o.id ≡ id
      → p ≡ f o → (f o).id ≡ o.id → listed (seek (with_value slab k p).slots) given ≡ change id f live
  write_listed live id k o p f e there named is same =
      rw (is, ← named, ← e)
      (change_listed slab (with_value slab k (f o)) k o f given sound.apart there (Updates-with_value slab k (f o) (rw there refl)) same)

  pub settled_listed :
      (new : Slab (Live V)) (more : List (List ℕ)) (live : List (Live V)) (id k : ℕ) (o p : Live V) (f : Live V → Live V) → listed (seek slab.slots) given ≡ live
      → get slab k ≡ Some o → o.id ≡ id → p ≡ f o → (f o).id ≡ o.id → Settles (with_value slab k p) new rows more k p
      → listed (seek new.slots) given ≡ kept (change id f live)
  settled_listed new more live id k o p f e there named is same h =
      let up : Updates slab new k (if_held (f o)) = subst (λ (q : Live V). Updates slab new k (if_held q)) is (updates_after slab new k o p (if_held p) there h.updates) in
      rw (← named, ← e)
      (settle_listed slab new k o f given sound.apart there (λ l q g. (sound.standing l q g).held) up same)

  -- a new object comes
  pub sound_add :
      (new : Slab (Live V)) (more : List (List ℕ)) (row : List ℕ) (k : ℕ) (o : Live V) → rows ≡ more ++ row ∷ [] → get slab k ≡ None
      → Updates slab new k (Some o) → slab_len new ≡ slab_len slab + 1 → new.capacity ≡ slab.capacity → o.id ≡ given + 1
      → length o.holds ≡ places → 0 < total o
      → IsSound new more room (given + 1) most places × (listed (seek new.slots) (given + 1) ≡ listed (seek slab.slots) given ++ o ∷ [])
  sound_add new more row k o is_more was updates len capacity next wide held = (
    record {
      standing = λ l q e. elim (cases_eq l k) [
        | inl lk ↦
            let s : Some o ≡ Some q = sym updates.changed ∙ (ap (get new) (sym lk) ∙ e) in
            let t : o ≡ q = cc in
            subst (IsStanding (given + 1) places) t (record { positive = omega (arith, next); upto = omega (arith, next); width = wide; held = held })
        | inr ln ↦
            let s = sound.standing l q (sym (updates.others l ln) ∙ e) in
            record { positive = s.positive; upto = omega (arith, s.upto); width = s.width; held = s.held }
      ];
      apart = apart-updated slab new k (given + 1) (Some o) only;
      blank = (All-pop (λ r. r ≡ replicate places 0) rows more (Some row) is_more sound.blank).0;
      count = omega (arith, sound.count, ap length is_more, length-append more (row ∷ []));
      slots = omega (arith, sound.slots);
      room = sound.room;
      whole = ap length is ∙ omega (arith, length-append (listed (seek slab.slots) given) (o ∷ []), sound.whole);
    },
    is,
  )
    where
      only : OnlyAt slab new k (given + 1) (Some o)
      only = record {
        updates = updates;
        apart = sound.apart;
        alone = λ l p e id. absurd (let s = sound.standing l p e in omega (arith, s.upto));
        was = λ p e. let n : None ≡ Some p = sym was ∙ e in absurd (cc);
        is = λ p e. let s : o ≡ p = cc in ap (λ x. x.id) (sym s) ∙ next;
      }

      is : listed (seek new.slots) (given + 1) ≡ listed (seek slab.slots) given ++ o ∷ []
      is =
          listed-more (seek new.slots) given
          ∙ rw (seek-there slab new k (given + 1) (Some o) only, same-listed (seek slab.slots) (seek new.slots) given (λ i l. seek-others slab new k (given + 1) (Some o) only i (λ e. omega arith))) refl
