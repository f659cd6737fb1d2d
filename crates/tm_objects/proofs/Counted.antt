-- Lemmas on the sets of slots that places hold.
use Rattle.std.proofs.Common.{◌≡◌, ◌≢◌, ℕ, ◌+◌, ◌<◌, ◌≤◌, Bool, true, false, cond, not, List, [], length, get_or, set, Option, Some, None, refl, sym, ap, ◌∙◌, inl, inr, arith, lit<, length-set}
use Rattle.std.specs.Prelude.{sum, count_by, replicate, All, ◌==◌}
use Rattle.std.proofs.lemmas.Bool.{cases_eq, cases_lt, ne_eqb}
use Rattle.std.proofs.lemmas.List.{get_or-set_same, get_or-set_other, get_or_past, get_or-replicate, length-replicate}
use Rattle.std.proofs.lemmas.List.Folds.{sum_by-replicate}
use Rattle.std.proofs.lemmas.List.Sums.{sum_by-set}
use Rattle.std.proofs.lemmas.List.Elements.{All-set, All-get_or, All-replicate}
use Rattle.slab.specs.Slab.{Slab, get, with_value, Updates}
use Rattle.slab.proofs.SlabLemmas.{Updates-with_value}
use Rattle.tm_objects.proofs.At.{one_hold}
use Rattle.tm_objects.specs.Live.{Live, total, holds_of, with_holds, is_held, first_held}
use Rattle.tm_objects.specs.Listing.{if_held, Settles}
use Rattle.tm_objects.specs.Counted.{flags_of, is_in, with_flag, has_hold, AreCounted}
use Rattle.tm_objects.proofs.Sound.{zero_counts, updates_after}

-- a flag of a place is written, and no other changes
pub flag_here : (held : List (List Bool)) (c key : ℕ) (b : Bool) → c < length held → key < length (flags_of held c) → is_in (with_flag c key b held) c key ≡ b
flag_here held c key b within inside =
    ap (λ (f : List Bool). get_or f key false) (get_or-set_same held c (set (flags_of held c) key b) [] within) ∙ get_or-set_same (flags_of held c) key b false inside

pub flag_beside : (held : List (List Bool)) (c key j : ℕ) (b : Bool) → c < length held → j ≢ key → is_in (with_flag c key b held) c j ≡ is_in held c j
flag_beside held c key j b within ne =
    ap (λ (f : List Bool). get_or f j false) (get_or-set_same held c (set (flags_of held c) key b) [] within) ∙ get_or-set_other (flags_of held c) key j b false ne

flag_elsewhere : (held : List (List Bool)) (c key d j : ℕ) (b : Bool) → d ≢ c → is_in (with_flag c key b held) d j ≡ is_in held d j
flag_elsewhere held c key d j b ne = ap (λ (f : List Bool). get_or f j false) (get_or-set_other held c d (set (flags_of held c) key b) [] ne)

-- so one flag less is set
pub less_flags : (held : List (List Bool)) (c key : ℕ) → c < length held → is_in held c key ≡ true → count_by (λ b. b) (flags_of (with_flag c key false held) c) < count_by (λ b. b) (flags_of held c)
less_flags held c key within was =
    let inside : key < length (flags_of held c) = elim (cases_lt key (length (flags_of held c))) [
      | inl l ↦ l
      | inr g ↦ absurd (let n : true ≡ false = sym was ∙ get_or_past (flags_of held c) key false g in cc)
    ] in
    let s = sum_by-set (λ (b : Bool). cond b 1 0) (flags_of held c) key false false inside in
    let t : count_by (λ b. b) (set (flags_of held c) key false) + 1 ≡ count_by (λ b. b) (flags_of held c) + 0 = rw was at s in
    rw (get_or-set_same held c (set (flags_of held c) key false) [] within) (omega (arith, t))

pub zero_sum : (n : ℕ) → sum (replicate n 0) ≡ 0
zero_sum n = sum_by-replicate (λ (x : ℕ). x) n 0 ∙ omega arith

-- what a list of one value gives with that value past its end
blank_at : {X : Type 0} (n c : ℕ) (x : X) → get_or (replicate n x) c x ≡ x
blank_at n c x = elim (cases_lt c n) [
  | inl l ↦ get_or-replicate n c x x l
  | inr g ↦ get_or_past (replicate n x) c x (rw length-replicate g)
]

module _ {V : Type 0} where
  -- no count is left on an object that nothing holds
  none_held : (o : Live V) → is_held o ≡ false → (c : ℕ) → holds_of o c ≡ 0
  none_held o e c =
      let z : total o ≡ 0 = elim (cases_eq (total o) 0) [ inl z ↦ z | inr n ↦ absurd (let t : true ≡ false = rw (ne_eqb (total o) 0 n) at e in cc) ] in
      let zeros = zero_counts o.holds (omega arith) in
      ap (λ (l : List ℕ). get_or l c 0) zeros ∙ blank_at {X = ℕ} (length o.holds) c 0

  -- what goes where nothing holds it was held by no place
  held_alike : (o : Live V) (c : ℕ) → has_hold (if_held o) c ≡ has_hold (Some o) c
  held_alike o c = by (is_held o) refl
    where
      by : (b : Bool) → is_held o ≡ b → has_hold (if_held o) c ≡ has_hold (Some o) c
      by true e = rw e refl
      by false e = rw (e, none_held o e c) refl

  -- a hold of one place leaves those of the others
  hold_other : (o : Live V) (c d n : ℕ) → d ≢ c → has_hold (Some (with_holds c n o)) d ≡ has_hold (Some o) d
  hold_other o c d n ne = ap (λ (m : ℕ). not (m == 0)) (get_or-set_other o.holds c d n 0 ne)

  pub hold_set : (o : Live V) (c n : ℕ) → c < length o.holds → has_hold (Some (with_holds c n o)) c ≡ not (n == 0)
  hold_set o c n within = ap (λ (m : ℕ). not (m == 0)) (get_or-set_same o.holds c n 0 within)

  pub holds_yes : (o p : Live V) (c n : ℕ) → p ≡ with_holds c (n + 1) o → c < length o.holds → true ≡ has_hold (Some p) c
  holds_yes o p c n is within = rw is (sym (hold_set o c (n + 1) within ∙ ap not (ne_eqb (n + 1) 0 (λ e. omega arith))))

  module _ {slab new : Slab (Live V)} {held : List (List Bool)} {places : ℕ} (counted : AreCounted slab held places) (key : ℕ) (slot : Option (Live V)) (updates : Updates slab new key slot) (capacity : new.capacity ≡ slab.capacity) (counts : (o : Live V) → slot ≡ Some o → (key < slab.capacity) × All (λ n. n < 4294967296) o.holds) where
    within_new : (l : ℕ) (o : Live V) → get new l ≡ Some o → l < new.capacity
    within_new l o e = elim (cases_eq l key) [
      | inl lk ↦ let w = counts o (sym updates.changed ∙ (ap (get new) (sym lk) ∙ e)) in omega (arith, w.0)
      | inr ne ↦ omega (arith, counted.within l o (sym (updates.others l ne) ∙ e))
    ]

    counts_new : (l : ℕ) (o : Live V) → get new l ≡ Some o → All (λ n. n < 4294967296) o.holds
    counts_new l o e = elim (cases_eq l key) [
      | inl lk ↦ (counts o (sym updates.changed ∙ (ap (get new) (sym lk) ∙ e))).1
      | inr ne ↦ counted.counts l o (sym (updates.others l ne) ∙ e)
    ]

    -- one slot changes, on which each place has a hold as before
    counted_same : ((d : ℕ) → has_hold slot d ≡ has_hold (get slab key) d) → AreCounted new held places
    counted_same same = record {
      sets = counted.sets;
      sizes = rw capacity counted.sizes;
      members = λ d l. counted.members d l ∙ (elim (cases_eq l key) [
        | inl lk ↦ ap (λ m. has_hold (get slab m) d) lk ∙ (sym (same d) ∙ (ap (λ x. has_hold x d) (sym updates.changed) ∙ ap (λ m. has_hold (get new m) d) (sym lk)))
        | inr ne ↦ ap (λ x. has_hold x d) (sym (updates.others l ne))
      ]);
      within = within_new;
      counts = counts_new;
    }

    -- one slot changes, and with it the hold of one place
    counted_change :
        (c : ℕ) (b : Bool) → c < places → key < slab.capacity → b ≡ has_hold slot c → ((d : ℕ) → d ≢ c → has_hold slot d ≡ has_hold (get slab key) d)
        → AreCounted new (with_flag c key b held) places
    counted_change c b within inside here same = record {
      sets = length-set held c (set (flags_of held c) key b) ∙ counted.sets;
      sizes = rw capacity (All-set (λ f. length f ≡ slab.capacity) held c (set (flags_of held c) key b) (length-set (flags_of held c) key b ∙ wide) counted.sizes);
      members = λ d l. elim (cases_eq l key) [
        | inl lk ↦ ap (λ m. is_in (with_flag c key b held) d m) lk ∙ (at_key d ∙ ap (λ m. has_hold (get new m) d) (sym lk))
        | inr nl ↦ beside d l nl ∙ (counted.members d l ∙ ap (λ x. has_hold x d) (sym (updates.others l nl)))
      ];
      within = within_new;
      counts = counts_new;
    }
      where
        wide : length (flags_of held c) ≡ slab.capacity
        wide = All-get_or (λ f. length f ≡ slab.capacity) held c [] (omega (arith, counted.sets, within)) counted.sizes

        there : c < length held
        there = omega (arith, counted.sets, within)

        beside : (d l : ℕ) → l ≢ key → is_in (with_flag c key b held) d l ≡ is_in held d l
        beside d l nl = elim (cases_eq d c) [
          | inl dc ↦ ap (λ e. is_in (with_flag c key b held) e l) dc ∙ (flag_beside held c key l b there nl ∙ ap (λ e. is_in held e l) (sym dc))
          | inr nd ↦ flag_elsewhere held c key d l b nd
        ]

        at_key : (d : ℕ) → is_in (with_flag c key b held) d key ≡ has_hold (get new key) d
        at_key d = rw updates.changed
            (elim (cases_eq d c) [
              | inl dc ↦ ap (λ e. is_in (with_flag c key b held) e key) dc ∙ (flag_here held c key b there (omega (arith, wide, inside)) ∙ (here ∙ ap (λ e. has_hold slot e) (sym dc)))
              | inr nd ↦ flag_elsewhere held c key d key b nd ∙ (counted.members d key ∙ sym (same d nd))
            ])

  -- an object is written that has the same counts
  pub counted_write :
      {slab : Slab (Live V)} {held : List (List Bool)} {places : ℕ} → AreCounted slab held places → (key : ℕ) (o p : Live V) → get slab key ≡ Some o → p.holds ≡ o.holds
      → AreCounted (with_value slab key p) held places
  counted_write {slab} counted key o p there same =
      counted_same counted key (Some p) (Updates-with_value slab key p (rw there refl)) refl
      (λ q e. let s : p ≡ q = cc in (counted.within key o there, rw (sym (ap (λ (r : Live V). r.holds) s) ∙ same) (counted.counts key o there)))
      (λ d. rw there (ap (λ (l : List ℕ). not (get_or l d 0 == 0)) same))

  -- the object that goes on is the one that was held
  held_same : (o p : Live V) → if_held o ≡ Some p → o ≡ p
  held_same o p h = by (is_held o) refl
    where
      by : (b : Bool) → is_held o ≡ b → o ≡ p
      by true e = let s : Some o ≡ Some p = rw e at h in cc
      by false e = let s : None ≡ Some p = rw e at h in absurd (cc)

  -- an object has gone on or gone, with the same counts
  pub counted_settle_same :
      {slab new : Slab (Live V)} {held : List (List Bool)} {rows more : List (List ℕ)} {places : ℕ} → AreCounted slab held places → (key : ℕ) (o p : Live V)
      → get slab key ≡ Some o → p.holds ≡ o.holds → Settles (with_value slab key p) new rows more key p → AreCounted new held places
  counted_settle_same {slab} {new} counted key o p there same settles =
      counted_same counted key (if_held p) (updates_after slab new key o p (if_held p) there settles.updates) settles.capacity
      (λ q e. let s = held_same p q e in (counted.within key o there, rw (sym (ap (λ (r : Live V). r.holds) s) ∙ same) (counted.counts key o there)))
      (λ d. held_alike p d ∙ rw there (ap (λ (l : List ℕ). not (get_or l d 0 == 0)) same))

  module _ {slab : Slab (Live V)} {held : List (List Bool)} {places : ℕ} (counted : AreCounted slab held places) (key : ℕ) (o : Live V) (there : get slab key ≡ Some o) (c : ℕ) (within : c < places) where
    -- the set of a place has room for the key of a live object
    pub key_within : key < length (flags_of held c)
    key_within =
        let wide : length (flags_of held c) ≡ slab.capacity = All-get_or (λ f. length f ≡ slab.capacity) held c [] (omega (arith, counted.sets, within)) counted.sizes in
        omega (arith, wide, counted.within key o there)

    pub count_small : holds_of o c < 4294967296
    count_small = elim (cases_lt c (length o.holds)) [
      | inl l ↦ All-get_or (λ n. n < 4294967296) o.holds c 0 l (counted.counts key o there)
      | inr g ↦ rw (get_or_past o.holds c 0 g) (lit< tt)
    ]

    pub place_within : c < length held
    place_within = omega (arith, counted.sets, within)

    counts_set : (p : Live V) (n : ℕ) → p ≡ with_holds c n o → n < 4294967296 → All (λ m. m < 4294967296) p.holds
    counts_set p n is small = rw is (All-set (λ m. m < 4294967296) o.holds c n small (counted.counts key o there))

    others_set : (p : Live V) (n : ℕ) → p ≡ with_holds c n o → (d : ℕ) → d ≢ c → has_hold (Some p) d ≡ has_hold (get slab key) d
    others_set p n is d ne = rw (is, there) (hold_other o c d n ne)

    -- a hold of a place is written
    pub counted_hold :
        (p : Live V) (n : ℕ) (b : Bool) → p ≡ with_holds c n o → n < 4294967296 → b ≡ has_hold (Some p) c
        → AreCounted (with_value slab key p) (with_flag c key b held) places
    counted_hold p n b is small here =
        counted_change counted key (Some p) (Updates-with_value slab key p (rw there refl)) refl
        (λ q e. let s : p ≡ q = cc in (counted.within key o there, rw (sym s) (counts_set p n is small)))
        c b within (counted.within key o there) here (others_set p n is)

    -- a hold of a place is written on an object, which has gone on or gone
    pub counted_settle :
        {new : Slab (Live V)} {rows more : List (List ℕ)} (p : Live V) (n : ℕ) (b : Bool) → p ≡ with_holds c n o → n < 4294967296 → b ≡ has_hold (Some p) c
        → Settles (with_value slab key p) new rows more key p → AreCounted new (with_flag c key b held) places
    counted_settle {new} p n b is small here settles =
        counted_change counted key (if_held p) (updates_after slab new key o p (if_held p) there settles.updates) settles.capacity
        (λ q e. let s = held_same p q e in (counted.within key o there, rw (sym s) (counts_set p n is small)))
        c b within (counted.within key o there) (here ∙ sym (held_alike p c)) (λ d ne. held_alike p d ∙ others_set p n is d ne)

    -- an object has gone that a place held once and nothing else
    pub counted_less :
        (new : Slab (Live V)) → Updates slab new key None → new.capacity ≡ slab.capacity → total o ≡ 1 → 1 ≤ holds_of o c → length o.holds ≡ places
        → AreCounted new (with_flag c key false held) places
    counted_less new updates capacity one has wide =
        counted_change counted key None updates capacity (λ q e. absurd (cc)) c false within (counted.within key o there) refl
        (λ d ne. rw there (ap (λ (m : ℕ). not (m == 0)) (sym (none_else d ne))))
      where
        none_else : (d : ℕ) → d ≢ c → holds_of o d ≡ 0
        none_else d ne =
            sym (get_or-set_other o.holds c d 0 0 ne)
            ∙ (ap (λ (l : List ℕ). get_or l d 0) (one_hold o c places one has (omega (arith, wide, within)) wide) ∙ blank_at {X = ℕ} places d 0)

  -- a new object has come that a place holds
  pub counted_add :
      {slab new : Slab (Live V)} {held : List (List Bool)} {places : ℕ} → AreCounted slab held places → (key c id : ℕ) (v : V) (o : Live V) → get slab key ≡ None
      → Updates slab new key (Some o) → new.capacity ≡ slab.capacity → key < new.capacity → c < places → o ≡ first_held id v places c
      → AreCounted new (with_flag c key true held) places
  counted_add {slab} {new} {held} {places} counted key c id v o was updates capacity inside within is =
      counted_change counted key (Some o) updates capacity
      (λ q e. let s : o ≡ q = cc in (omega (arith, capacity, inside), rw (sym s, is) (All-set (λ n. n < 4294967296) (replicate places 0) c 1 (lit< tt) (All-replicate (λ n. n < 4294967296) places 0 (lit< tt)))))
      c true within (omega (arith, capacity, inside))
      (rw is (ap (λ (m : ℕ). not (m == 0)) (sym (get_or-set_same (replicate places 0) c 1 0 (rw length-replicate within)))))
      (λ d ne. rw (is, was) (ap (λ (m : ℕ). not (m == 0)) (get_or-set_other (replicate places 0) c d 1 0 ne ∙ blank_at {X = ℕ} places d 0)))

  -- the set of a place has room for each slot
  pub set_within : {slab : Slab (Live V)} {held : List (List Bool)} {places : ℕ} → AreCounted slab held places → (c key : ℕ) → c < places → key < slab.capacity → (c < length held) × (key < length (flags_of held c))
  set_within {slab} {held} counted c key within inside =
      let wide : length (flags_of held c) ≡ slab.capacity = All-get_or (λ f. length f ≡ slab.capacity) held c [] (omega (arith, counted.sets, within)) counted.sizes in
      (omega (arith, counted.sets, within), omega (arith, wide, inside))

  -- a place holds what stands at a key of its set
  pub there_is : {slab : Slab (Live V)} {held : List (List Bool)} {places : ℕ} → AreCounted slab held places → (c key : ℕ) → is_in held c key ≡ true → (o : Live V) × (get slab key ≡ Some o)
  there_is {slab} counted c key was = by (get slab key) refl
    where
      by : (x : Option (Live V)) → get slab key ≡ x → (o : Live V) × (get slab key ≡ Some o)
      by None e = let n : true ≡ false = sym was ∙ (counted.members c key ∙ rw e refl) in absurd (cc)
      by (Some o) e = (o, e)

  -- no objects
  pub counted_none : (slab : Slab (Live V)) (held : List (List Bool)) (places : ℕ) → slab.slots ≡ [] → held ≡ replicate places (replicate slab.capacity false) → AreCounted slab held places
  counted_none slab held places none is = record {
    sets = rw is (length-replicate places (replicate slab.capacity false));
    sizes = rw is (All-replicate (λ f. length f ≡ slab.capacity) places (replicate slab.capacity false) (length-replicate slab.capacity false));
    members = λ c key. rw (is, none) (blank c key);
    within = λ key o e. let n : None ≡ Some o = sym (ap (λ (s : List (Option (Live V))). get_or s key None) none) ∙ e in absurd (cc);
    counts = λ key o e. let n : None ≡ Some o = sym (ap (λ (s : List (Option (Live V))). get_or s key None) none) ∙ e in absurd (cc);
  }
    where
      blank : (c key : ℕ) → is_in (replicate places (replicate slab.capacity false)) c key ≡ false
      blank c key = elim (cases_lt c places) [
        | inl l ↦ ap (λ (f : List Bool). get_or f key false) (get_or-replicate places c (replicate slab.capacity false) [] l) ∙ blank_at slab.capacity key false
        | inr g ↦ ap (λ (f : List Bool). get_or f key false) (get_or_past (replicate places (replicate slab.capacity false)) c [] (rw length-replicate g))
      ]
