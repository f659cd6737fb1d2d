-- Lemmas on sound slots, and on the list of their objects.
use Rattle.std.proofs.Common.{◌≡◌, ◌≢◌, ℕ, ◌+◌, ◌<◌, Bool, true, false, cond, not, List, [], ◌∷◌, ◌++◌, length, Option, Some, None, refl, sym, ap, subst, ◌∙◌, inl, inr, arith, length-append}
use Rattle.std.specs.Prelude.{sum, replicate, option_map, is_some, ◌==◌}
use Rattle.std.proofs.lemmas.Bool.{cases_eq, eq-eqb, ne_eqb}
use Rattle.std.proofs.lemmas.List.{length-map, append-nil}
use Rattle.std.proofs.lemmas.List.Sums.{sum_by-set, sum_by-cons}
use Rattle.std.proofs.lemmas.List.Elements.{All-push}
use Rattle.slab.specs.Slab.{Slab, get, Updates, slab_len, with_value}
use Rattle.slab.proofs.SlabLemmas.{Updates-with_value, ContainsKey-within}
use Rattle.tm_objects.specs.Live.{Live, total, is_held, object_of, change, kept, without}
use Rattle.tm_objects.specs.Listing.{seek, listed, AreApart, IsStanding, IsSound, if_held, Settles}
use Rattle.tm_objects.proofs.Lists.{AreNamed, kept_if, find-listed, find-listed_absent, map-listed, filter-listed, length-listed_less}
use Rattle.tm_objects.proofs.Seeks.{OnlyAt, seek-found, seek-slot, seek-there, seek-others, apart-updated}

-- counts with the sum 0 are zeros
pub zero_counts : (xs : List ℕ) → sum xs ≡ 0 → xs ≡ replicate (length xs) 0
zero_counts [] h = refl
zero_counts (x ∷ xs) h =
    let split = sum_by-cons (λ (n : ℕ). n) x xs in
    let z : x ≡ 0 = omega arith in
    let e : xs ≡ replicate (length xs) 0 = zero_counts xs (omega arith) in
    rw z (ap (λ ys. 0 ∷ ys) e)

module _ {V : Type 0} where
  pub named : (slots : List (Option (Live V))) → AreNamed (seek slots)
  named slots i o h = (seek-slot slots i o h).2

  -- the object in a slot is that of its id
  pub found_object :
      (slab : Slab (Live V)) (rows : List (List ℕ)) (room given most places : ℕ) → IsSound slab rows room given most places
      → (k : ℕ) (o : Live V) → get slab k ≡ Some o → object_of (listed (seek slab.slots) given) o.id ≡ Some o
  found_object slab rows room given most places sound k o h =
      let s = sound.standing k o h in
      find-listed (seek slab.slots) (named slab.slots) given o.id s.positive s.upto ∙ seek-found slab.slots k o sound.apart h

  -- the object of an id stands in a slot
  pub slot_of_object :
      (slab : Slab (Live V)) (rows : List (List ℕ)) (room given most places : ℕ) → IsSound slab rows room given most places
      → (id : ℕ) (o : Live V) → object_of (listed (seek slab.slots) given) id ≡ Some o → (k : ℕ) × (get slab k ≡ Some o) × (o.id ≡ id)
  slot_of_object slab rows room given most places sound id o h = by (seek slab.slots id) refl
    where
      by : (x : Option (Live V)) → seek slab.slots id ≡ x → (k : ℕ) × (get slab k ≡ Some o) × (o.id ≡ id)
      by None e = let n : None ≡ Some o = sym (find-listed_absent (seek slab.slots) (named slab.slots) given id e) ∙ h in absurd (cc)
      by (Some p) e =
          let s = seek-slot slab.slots id p e in
          let f : Some p ≡ Some o = sym (found_object slab rows room given most places sound s.0 p s.1) ∙ (ap (object_of (listed (seek slab.slots) given)) s.2 ∙ h) in
          let same : p ≡ o = cc in
          (s.0, s.1 ∙ ap Some same, sym (ap (λ x. x.id) same) ∙ s.2)

  -- a change of the slot of an object is one at its id alone
  pub only_at :
      (old new : Slab (Live V)) (k : ℕ) (o : Live V) (slot : Option (Live V)) → AreApart old.slots → get old k ≡ Some o
      → Updates old new k slot → ((p : Live V) → slot ≡ Some p → p.id ≡ o.id) → OnlyAt old new k o.id slot
  only_at old new k o slot apart there updates is = record {
    updates = updates;
    apart = apart;
    alone = λ l p e id. apart l k p o e there id;
    was = λ p e. let same : Some p ≡ Some o = sym e ∙ there in let s : p ≡ o = cc in ap (λ x. x.id) s;
    is = is;
  }

  map_others : (f : Live V → Live V) (j i : ℕ) (x : Option (Live V)) → ((p : Live V) → x ≡ Some p → p.id ≡ i) → i ≢ j → option_map (λ p. cond (p.id == j) (f p) p) x ≡ x
  map_others f j i None h ne = refl
  map_others f j i (Some p) h ne = rw (ne_eqb p.id j (λ e. ne (sym (h p refl) ∙ e))) refl

  kept_all : (x : Option (Live V)) → ((p : Live V) → x ≡ Some p → is_held p ≡ true) → kept_if is_held x ≡ x
  kept_all None h = refl
  kept_all (Some p) h = rw (h p refl) refl

  -- one object changes
  pub change_listed :
      (old new : Slab (Live V)) (k : ℕ) (o : Live V) (f : Live V → Live V) (n : ℕ) → AreApart old.slots → get old k ≡ Some o
      → Updates old new k (Some (f o)) → (f o).id ≡ o.id
      → listed (seek new.slots) n ≡ change o.id f (listed (seek old.slots) n)
  change_listed old new k o f n apart there updates same =
      let only = only_at old new k o (Some (f o)) apart there updates (λ p e. let s : f o ≡ p = cc in ap (λ x. x.id) (sym s) ∙ same) in
      map-listed (seek old.slots) (seek new.slots) (λ p. cond (p.id == o.id) (f p) p) n (λ i.
      elim (cases_eq i o.id) [
        | inl e ↦
            rw (e, seek-there old new k o.id (Some (f o)) only, seek-found old.slots k o apart there, eq-eqb o.id o.id refl) refl
        | inr ne ↦
            seek-others old new k o.id (Some (f o)) only i ne ∙ sym (map_others f o.id i (seek old.slots i) (named old.slots i) ne)
      ])

  pub if_held-is : (o p : Live V) → if_held o ≡ Some p → p.id ≡ o.id
  if_held-is o p h = by (is_held o) refl h
    where
      by : (b : Bool) → is_held o ≡ b → if_held o ≡ Some p → p.id ≡ o.id
      by true e h = let s : Some o ≡ Some p = rw e at h in let t : o ≡ p = cc in ap (λ x. x.id) (sym t)
      by false e h = let s : None ≡ Some p = rw e at h in absurd (cc)

  held_true : (o : Live V) → 0 < total o → is_held o ≡ true
  held_true o h = rw (ne_eqb (total o) 0 (λ e. omega arith)) refl

  -- one object changes, and goes where nothing holds it
  pub settle_listed :
      (old new : Slab (Live V)) (k : ℕ) (o : Live V) (f : Live V → Live V) (n : ℕ) → AreApart old.slots → get old k ≡ Some o
      → ((l : ℕ) (p : Live V) → get old l ≡ Some p → 0 < total p)
      → Updates old new k (if_held (f o)) → (f o).id ≡ o.id
      → listed (seek new.slots) n ≡ kept (change o.id f (listed (seek old.slots) n))
  settle_listed old new k o f n apart there held updates same =
      let only = only_at old new k o (if_held (f o)) apart there updates (λ p e. if_held-is (f o) p e ∙ same) in
      let g = λ (p : Live V). cond (p.id == o.id) (f p) p in
      let mid : ℕ → Option (Live V) = λ i. option_map g (seek old.slots i) in
      filter-listed mid (seek new.slots) is_held n (λ i.
      elim (cases_eq i o.id) [
        | inl e ↦
            rw (e, seek-there old new k o.id (if_held (f o)) only, seek-found old.slots k o apart there, eq-eqb o.id o.id refl) refl
        | inr ne ↦
            rw (map_others f o.id i (seek old.slots i) (named old.slots i) ne)
            (seek-others old new k o.id (if_held (f o)) only i ne
            ∙ sym (kept_all (seek old.slots i) (λ p e. let s = seek-slot old.slots i p e in held_true p (held s.0 p s.1))))
      ])
      ∙ ap kept (map-listed (seek old.slots) mid g n (λ i. refl))

  -- one object goes
  pub less_listed :
      (old new : Slab (Live V)) (k : ℕ) (o : Live V) (n : ℕ) → AreApart old.slots → get old k ≡ Some o → Updates old new k None
      → listed (seek new.slots) n ≡ without o.id (listed (seek old.slots) n)
  less_listed old new k o n apart there updates =
      let only = only_at old new k o None apart there updates (λ p e. absurd (cc)) in
      filter-listed (seek old.slots) (seek new.slots) (λ p. not (p.id == o.id)) n (λ i.
      elim (cases_eq i o.id) [
        | inl e ↦
            rw (e, seek-there old new k o.id None only, seek-found old.slots k o apart there, eq-eqb o.id o.id refl) refl
        | inr ne ↦ seek-others old new k o.id None only i ne ∙ others_stay (seek old.slots i) i ne (named old.slots i)
      ])
    where
      others_stay : (x : Option (Live V)) (i : ℕ) → i ≢ o.id → ((p : Live V) → x ≡ Some p → p.id ≡ i) → x ≡ kept_if (λ p. not (p.id == o.id)) x
      others_stay None i ne h = refl
      others_stay (Some p) i ne h = rw (ne_eqb p.id o.id (λ e. ne (sym (h p refl) ∙ e))) refl

  -- a write of a slot that has an object leaves the number of objects
  pub len-with_value : (slab : Slab (Live V)) (k : ℕ) (o p : Live V) → get slab k ≡ Some o → slab_len (with_value slab k p) ≡ slab_len slab
  len-with_value slab k o p there =
      let within : k < length slab.slots = ContainsKey-within slab k (rw there refl) in
      let h = sum_by-set (λ (x : Option (Live V)). cond (is_some x) 1 0) slab.slots k (Some p) None within in
      let g = ap (λ (x : Option (Live V)). let n : ℕ = cond (is_some x) 1 0 in n) there in
      omega (arith, h, g)

  -- sound slots stay so where an object changes that goes on standing
  pub sound_change :
      (slab new : Slab (Live V)) (rows : List (List ℕ)) (room given most places : ℕ) → IsSound slab rows room given most places
      → (k : ℕ) (o p : Live V) → get slab k ≡ Some o → p.id ≡ o.id → IsStanding given places p → Updates slab new k (Some p)
      → slab_len new ≡ slab_len slab → new.capacity ≡ slab.capacity → IsSound new rows room given most places
  sound_change slab new rows room given most places sound k o p there same standing updates len capacity =
      let only = only_at slab new k o (Some p) sound.apart there updates (λ q e. let s : p ≡ q = cc in ap (λ x. x.id) (sym s) ∙ same) in record {
        standing = λ l q e. elim (cases_eq l k) [
          | inl lk ↦
              let s : Some p ≡ Some q = sym updates.changed ∙ (ap (get new) (sym lk) ∙ e) in
              let t : p ≡ q = cc in subst (IsStanding given places) t standing
          | inr ln ↦ sound.standing l q (sym (updates.others l ln) ∙ e)
        ];
        apart = apart-updated slab new k o.id (Some p) only;
        blank = sound.blank;
        count = omega (arith, sound.count);
        slots = omega (arith, sound.slots);
        room = sound.room;
        whole =
            ap length (change_listed slab new k o (λ _. p) given sound.apart there updates same)
            ∙ (length-map (listed (seek slab.slots) given) (λ q. cond (q.id == o.id) p q) ∙ (sound.whole ∙ sym len));
      }

  -- sound slots stay so where an object goes whose row counts no holds
  pub sound_less :
      (slab new : Slab (Live V)) (rows more : List (List ℕ)) (room given most places : ℕ) → IsSound slab rows room given most places
      → (k : ℕ) (o : Live V) (row : List ℕ) → get slab k ≡ Some o → Updates slab new k None
      → slab_len new + 1 ≡ slab_len slab → new.capacity ≡ slab.capacity → more ≡ rows ++ row ∷ [] → row ≡ replicate places 0
      → IsSound new more room given most places
  sound_less slab new rows more room given most places sound k o row there updates len capacity is_more zeros =
      let only = only_at slab new k o None sound.apart there updates (λ q e. absurd (cc)) in
      let s = sound.standing k o there in record {
        standing = λ l q e. elim (cases_eq l k) [
          | inl lk ↦
              let n : None ≡ Some q = sym updates.changed ∙ (ap (get new) (sym lk) ∙ e) in absurd (cc)
          | inr ln ↦ sound.standing l q (sym (updates.others l ln) ∙ e)
        ];
        apart = apart-updated slab new k o.id None only;
        blank = rw is_more (All-push (λ r. r ≡ replicate places 0) rows row sound.blank zeros);
        count = rw is_more (omega (arith, sound.count, length-append rows (row ∷ [])));
        slots = omega (arith, sound.slots);
        room = sound.room;
        whole =
            let h = length-listed_less (seek slab.slots) (seek new.slots) o.id o given (seek-found slab.slots k o sound.apart there)
            (seek-there slab new k o.id None only) (λ i ne. seek-others slab new k o.id None only i ne) s.positive s.upto in
            omega (arith, sound.whole);
      }

  -- a slot is written, and then changes again
  pub updates_after : (slab new : Slab (Live V)) (k : ℕ) (o p : Live V) (slot : Option (Live V)) → get slab k ≡ Some o → Updates (with_value slab k p) new k slot → Updates slab new k slot
  updates_after slab new k o p slot there h =
      let w = Updates-with_value slab k p (rw there refl) in record {
        changed = h.changed;
        others = λ l ne. h.others l ne ∙ w.others l ne;
      }

  -- sound slots stay so where an object changes, and goes where nothing holds it
  pub sound_settle :
      (slab new : Slab (Live V)) (rows more : List (List ℕ)) (room given most places : ℕ) → IsSound slab rows room given most places
      → (k : ℕ) (o p : Live V) → get slab k ≡ Some o → p.id ≡ o.id → length p.holds ≡ places
      → Settles (with_value slab k p) new rows more k p → IsSound new more room given most places
  sound_settle slab new rows more room given most places sound k o p there same wide h = by (is_held p) refl
    where
      up : Updates slab new k (if_held p)
      up = updates_after slab new k o p (if_held p) there h.updates

      len : slab_len new + cond (is_held p) 0 1 ≡ slab_len slab
      len = h.len ∙ len-with_value slab k o p there

      by : (b : Bool) → is_held p ≡ b → IsSound new more room given most places
      by true e =
          let u : Updates slab new k (Some p) = rw e at up in
          let l : slab_len new + 0 ≡ slab_len slab = rw e at len in
          let m : more ≡ rows ++ [] = rw e at h.spare in
          let s = sound.standing k o there in
          let z : 0 < total p = elim (cases_eq (total p) 0) [ inl z ↦ absurd (let t : false ≡ true = rw (eq-eqb (total p) 0 z) at e in cc) | inr n ↦ omega arith ] in
          rw (m, append-nil rows)
          (sound_change slab new rows room given most places sound k o p there same
          (record { positive = rw same s.positive; upto = rw same s.upto; width = wide; held = z })
          u (omega arith) h.capacity)
      by false e =
          let u : Updates slab new k None = rw e at up in
          let l : slab_len new + 1 ≡ slab_len slab = rw e at len in
          let m : more ≡ rows ++ p.holds ∷ [] = rw e at h.spare in
          let z : total p ≡ 0 = elim (cases_eq (total p) 0) [ inl z ↦ z | inr n ↦ absurd (let t : true ≡ false = rw (ne_eqb (total p) 0 n) at e in cc) ] in
          let zeros : p.holds ≡ replicate places 0 = zero_counts p.holds (omega arith) ∙ ap (λ n. replicate n 0) wide in
          sound_less slab new rows more room given most places sound k o p.holds there u l h.capacity m zeros
