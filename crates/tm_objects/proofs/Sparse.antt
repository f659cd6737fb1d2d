-- Lemmas on a sparse set of keys.
use Rattle.std.proofs.Common.{◌≡◌, ◌≢◌, ℕ, zero, suc, ◌+◌, ◌<◌, ◌≤◌, Bool, true, false, cond, List, [], ◌∷◌, ◌++◌, length, get_or, set, refl, sym, ap, ◌∙◌, inl, inr, arith, length-append, length-set}
use Rattle.std.specs.Prelude.{count_by, map, replicate}
use Rattle.std.proofs.lemmas.Bool.{cases_eq, cases_lt, eq-eqb, ne_eqb}
use Rattle.std.proofs.Math.Seq.{get_or-append_seam}
use Rattle.std.proofs.lemmas.List.{get_or-map, get_or_append_left, get_or-set_same, get_or-set_other, get_or_past, map-set, set-get_or, length-map}
use Rattle.std.proofs.lemmas.List.Sums.{sum_by-set, count_by-le-length}
use Rattle.tm_objects.specs.Sparse.{absent, is_member, IsSparse}

member_yes : (p : ℕ) → p ≢ absent → is_member p ≡ true
member_yes p h = rw (ne_eqb p absent h) refl

member_no : (p : ℕ) → p ≡ absent → is_member p ≡ false
member_no p h = rw (eq-eqb p absent h) refl

-- counts after a position is written
counted : (ps : List ℕ) (k p : ℕ) → k < length ps → count_by is_member (set ps k p) + cond (is_member (get_or ps k 0)) 1 0 ≡ count_by is_member ps + cond (is_member p) 1 0
counted ps k p within = sum_by-set (λ (q : ℕ). cond (is_member q) 1 0) ps k p 0 within

module _ {ms ps : List ℕ} {room : ℕ} (sparse : IsSparse ms ps room) where
  -- there are no more members than keys
  pub few : length ms ≤ length ps
  few = omega (arith, sparse.count, count_by-le-length is_member ps)

  -- and fewer where a key is none
  pub fewer : (k : ℕ) → k < length ps → get_or ps k 0 ≡ absent → length ms < length ps
  fewer k within none =
      let c = counted ps k 0 within in
      let l = count_by-le-length is_member (set ps k 0) in
      let n : is_member (get_or ps k 0) ≡ false = member_no (get_or ps k 0) none in
      let d : count_by is_member (set ps k 0) + 0 ≡ count_by is_member ps + 1 = rw n at c in
      omega (arith, d, l, length-set ps k 0, sparse.count)

  pub sparse-insert : (k : ℕ) → k < length ps → get_or ps k 0 ≡ absent → IsSparse (ms ++ k ∷ []) (set ps k (length ms)) room
  sparse-insert k within none = record {
    narrow = rw (length-set ps k (length ms)) sparse.narrow;
    fits = rw (length-set ps k (length ms)) sparse.fits;
    count =
        let c = counted ps k (length ms) within in
        let n : is_member (get_or ps k 0) ≡ false = member_no (get_or ps k 0) none in
        let y : is_member (length ms) ≡ true = member_yes (length ms) here in
        let d : count_by is_member (set ps k (length ms)) + 0 ≡ count_by is_member ps + 1 = rw (n, y) at c in
        omega (arith, d, sparse.count, length-append ms (k ∷ []));
    stands = λ i h. elim (cases_lt i (length ms)) [
      | inl l ↦
          let s = sparse.stands i l in
          let m = get_or ms i 0 in
          let ne : m ≢ k = λ e. let a : get_or ps m 0 ≡ absent = ap (λ j. get_or ps j 0) e ∙ none in omega (arith, few, sparse.narrow, a, s.1, l) in
          rw (get_or_append_left ms (k ∷ []) 0 i l, length-set ps k (length ms)) (s.0, get_or-set_other ps k m (length ms) 0 ne ∙ s.1)
      | inr g ↦
          let e : i ≡ length ms = omega (arith, length-append ms (k ∷ []), h) in
          rw (e, get_or-append_seam ms k [] 0, length-set ps k (length ms)) (within, get_or-set_same ps k (length ms) 0 within)
    ];
    found = λ j h member. elim (cases_eq j k) [
      | inl e ↦
          let at : get_or (set ps k (length ms)) j 0 ≡ length ms = ap (λ l. get_or (set ps k (length ms)) l 0) e ∙ get_or-set_same ps k (length ms) 0 within in
          rw at (omega (arith, length-append ms (k ∷ [])), get_or-append_seam ms k [] 0 ∙ sym e)
      | inr ne ↦
          let at : get_or (set ps k (length ms)) j 0 ≡ get_or ps j 0 = get_or-set_other ps k j (length ms) 0 ne in
          let f = sparse.found j (omega (arith, length-set ps k (length ms), h)) (λ a. member (at ∙ a)) in
          rw at (omega (arith, f.0, length-append ms (k ∷ [])), get_or_append_left ms (k ∷ []) 0 (get_or ps j 0) f.0 ∙ f.1)
    ];
  }
    where
      here : length ms ≢ absent
      here e = omega (arith, fewer k within none, sparse.narrow)

-- the last member goes
pub sparse-last : (front ps : List ℕ) (k room : ℕ) → IsSparse (front ++ k ∷ []) ps room → IsSparse front (set ps k absent) room
sparse-last front ps k room sparse = record {
  narrow = rw (length-set ps k absent) sparse.narrow;
  fits = rw (length-set ps k absent) sparse.fits;
  count =
      let c = counted ps k absent within in
      let y : is_member (get_or ps k 0) ≡ true = member_yes (get_or ps k 0) (λ a. omega (arith, few sparse, sparse.narrow, len, a, at)) in
      let d : count_by is_member (set ps k absent) + 1 ≡ count_by is_member ps + 0 = rw y at c in
      omega (arith, d, sparse.count, len);
  stands = λ i h.
      let s = sparse.stands i (omega (arith, len, h)) in
      let e : get_or (front ++ k ∷ []) i 0 ≡ get_or front i 0 = get_or_append_left front (k ∷ []) 0 i h in
      let t : (get_or front i 0 < length ps) × (get_or ps (get_or front i 0) 0 ≡ i) = rw e at s in
      let ne : get_or front i 0 ≢ k = λ same. let q : get_or ps k 0 ≡ i = ap (λ j. get_or ps j 0) (sym same) ∙ t.1 in omega (arith, q, at, h) in
      rw (length-set ps k absent) (t.0, get_or-set_other ps k (get_or front i 0) absent 0 ne ∙ t.1);
  found = λ j h member. elim (cases_eq j k) [
    | inl e ↦ absurd (member (ap (λ l. get_or (set ps k absent) l 0) e ∙ get_or-set_same ps k absent 0 within))
    | inr ne ↦
        let same : get_or (set ps k absent) j 0 ≡ get_or ps j 0 = get_or-set_other ps k j absent 0 ne in
        let f = sparse.found j (omega (arith, length-set ps k absent, h)) (λ a. member (same ∙ a)) in
        let short : get_or ps j 0 ≢ length front = λ q. ne (sym f.1 ∙ (ap (λ i. get_or (front ++ k ∷ []) i 0) q ∙ get_or-append_seam front k [] 0)) in
        let l : get_or ps j 0 < length front = omega (arith, f.0, len, short) in
        rw same (l, sym (get_or_append_left front (k ∷ []) 0 (get_or ps j 0) l) ∙ f.1)
  ];
}
  where
    len : length (front ++ k ∷ []) ≡ length front + 1
    len = length-append front (k ∷ [])

    end : (k < length ps) × (get_or ps k 0 ≡ length front)
    end = rw (get_or-append_seam front k [] 0) at (sparse.stands (length front) (omega (arith, len)))

    within : k < length ps
    within = end.0

    at : get_or ps k 0 ≡ length front
    at = end.1

-- the position of a member is not the last one's
pub moved_short : (front ps : List ℕ) (k last room : ℕ) → IsSparse (front ++ last ∷ []) ps room → k < length ps → get_or ps k 0 ≢ absent → last ≢ k → get_or ps k 0 < length front
moved_short front ps k last room sparse within is_in differ =
    let f = sparse.found k within is_in in
    let ne : get_or ps k 0 ≢ length front = λ q. differ (sym (get_or-append_seam front last [] 0) ∙ (ap (λ i. get_or (front ++ last ∷ []) i 0) (sym q) ∙ f.1)) in
    omega (arith, f.0, length-append front (last ∷ []), ne)

-- a member goes whose position the last one takes
pub sparse-moved : (front ps : List ℕ) (k last room : ℕ) → IsSparse (front ++ last ∷ []) ps room → k < length ps → get_or ps k 0 ≢ absent → last ≢ k → IsSparse (set front (get_or ps k 0) last) (set (set ps k absent) last (get_or ps k 0)) room
sparse-moved front ps k last room sparse within is_in differ = record {
  narrow = rw wide sparse.narrow;
  fits = rw wide sparse.fits;
  count =
      let c = counted ps k absent within in
      let d = counted (set ps k absent) last (get_or ps k 0) (rw (length-set ps k absent) end.0) in
      let yk : is_member (get_or ps k 0) ≡ true = member_yes (get_or ps k 0) is_in in
      let yl : is_member (get_or (set ps k absent) last 0) ≡ true = member_yes (get_or (set ps k absent) last 0) (λ a. omega (arith, few sparse, sparse.narrow, len, a, end.1, get_or-set_other ps k last absent 0 differ)) in
      let c' : count_by is_member (set ps k absent) + 1 ≡ count_by is_member ps + 0 = rw yk at c in
      let d' : count_by is_member (set (set ps k absent) last (get_or ps k 0)) + 1 ≡ count_by is_member (set ps k absent) + 1 = rw (yl, yk) at d in
      omega (arith, c', d', sparse.count, len, length-set front (get_or ps k 0) last);
  stands = λ i h. elim (cases_eq i (get_or ps k 0)) [
    | inl e ↦
        let at : get_or (set front (get_or ps k 0) last) i 0 ≡ last = ap (λ j. get_or (set front (get_or ps k 0) last) j 0) e ∙ get_or-set_same front (get_or ps k 0) last 0 short in
        rw (at, wide) (end.0, get_or-set_same (set ps k absent) last (get_or ps k 0) 0 (rw (length-set ps k absent) end.0) ∙ sym e)
    | inr ne ↦
        let l : i < length front = omega (arith, length-set front (get_or ps k 0) last, h) in
        let s = sparse.stands i (omega (arith, len, l)) in
        let at : get_or (set front (get_or ps k 0) last) i 0 ≡ get_or front i 0 = get_or-set_other front (get_or ps k 0) i last 0 ne in
        let t : (get_or front i 0 < length ps) × (get_or ps (get_or front i 0) 0 ≡ i) = rw (get_or_append_left front (last ∷ []) 0 i l) at s in
        let nk : get_or front i 0 ≢ k = λ same. ne (sym t.1 ∙ ap (λ j. get_or ps j 0) same) in
        let nl : get_or front i 0 ≢ last = λ same. let q : get_or ps last 0 ≡ i = ap (λ j. get_or ps j 0) (sym same) ∙ t.1 in omega (arith, q, end.1, l) in
        rw (at, wide) (t.0, get_or-set_other (set ps k absent) last (get_or front i 0) (get_or ps k 0) 0 nl ∙ (get_or-set_other ps k (get_or front i 0) absent 0 nk ∙ t.1))
  ];
  found = λ j h member. elim (cases_eq j last) [
    | inl e ↦
        let at : get_or (set (set ps k absent) last (get_or ps k 0)) j 0 ≡ get_or ps k 0 = ap (λ l. get_or (set (set ps k absent) last (get_or ps k 0)) l 0) e ∙ get_or-set_same (set ps k absent) last (get_or ps k 0) 0 (rw (length-set ps k absent) end.0) in
        rw at (omega (arith, short, length-set front (get_or ps k 0) last), get_or-set_same front (get_or ps k 0) last 0 short ∙ sym e)
    | inr nl ↦
        let o : get_or (set (set ps k absent) last (get_or ps k 0)) j 0 ≡ get_or (set ps k absent) j 0 = get_or-set_other (set ps k absent) last j (get_or ps k 0) 0 nl in
        elim (cases_eq j k) [
          | inl e ↦ absurd (member (o ∙ (ap (λ l. get_or (set ps k absent) l 0) e ∙ get_or-set_same ps k absent 0 within)))
          | inr nk ↦
              let same : get_or (set (set ps k absent) last (get_or ps k 0)) j 0 ≡ get_or ps j 0 = o ∙ get_or-set_other ps k j absent 0 nk in
              let f = sparse.found j (omega (arith, wide, h)) (λ a. member (same ∙ a)) in
              let np : get_or ps j 0 ≢ get_or ps k 0 = λ q. nk (sym f.1 ∙ (ap (λ i. get_or (front ++ last ∷ []) i 0) q ∙ there.1)) in
              let ne : get_or ps j 0 ≢ length front = λ q. nl (sym f.1 ∙ (ap (λ i. get_or (front ++ last ∷ []) i 0) q ∙ get_or-append_seam front last [] 0)) in
              let l : get_or ps j 0 < length front = omega (arith, f.0, len, ne) in
              rw same (
                omega (arith, l, length-set front (get_or ps k 0) last),
                get_or-set_other front (get_or ps k 0) (get_or ps j 0) last 0 np ∙ (sym (get_or_append_left front (last ∷ []) 0 (get_or ps j 0) l) ∙ f.1),
              )
        ]
  ];
}
  where
    len : length (front ++ last ∷ []) ≡ length front + 1
    len = length-append front (last ∷ [])

    wide : length (set (set ps k absent) last (get_or ps k 0)) ≡ length ps
    wide = length-set (set ps k absent) last (get_or ps k 0) ∙ length-set ps k absent

    end : (last < length ps) × (get_or ps last 0 ≡ length front)
    end = rw (get_or-append_seam front last [] 0) at (sparse.stands (length front) (omega (arith, len)))

    there : (get_or ps k 0 < length (front ++ last ∷ [])) × (get_or (front ++ last ∷ []) (get_or ps k 0) 0 ≡ k)
    there = sparse.found k within is_in

    short : get_or ps k 0 < length front
    short = moved_short front ps k last room sparse within is_in differ

-- whether a key is a member, from its position
flag_at : (ps : List ℕ) (k : ℕ) → k < length ps → get_or (map is_member ps) k false ≡ is_member (get_or ps k 0)
flag_at ps k within = get_or-map is_member ps k 0 false within

pub flag_in : (ps : List ℕ) (k : ℕ) → k < length ps → get_or ps k 0 ≢ absent → get_or (map is_member ps) k false ≡ true
flag_in ps k within h = flag_at ps k within ∙ member_yes (get_or ps k 0) h

pub flag_out : (ps : List ℕ) (k : ℕ) → k < length ps → get_or ps k 0 ≡ absent → get_or (map is_member ps) k false ≡ false
flag_out ps k within h = flag_at ps k within ∙ member_no (get_or ps k 0) h

-- a key that is a member already, or is none, stays so
pub flag-kept : (flags : List Bool) (k : ℕ) (b : Bool) → get_or flags k false ≡ b → flags ≡ set flags k b
flag-kept flags k b h = sym (set-get_or flags k false) ∙ ap (λ (x : Bool). set flags k x) h

pub inserted_is : {ms ps : List ℕ} {room : ℕ} → IsSparse ms ps room → (k : ℕ) → k < length ps → get_or ps k 0 ≡ absent → map is_member (set ps k (length ms)) ≡ set (map is_member ps) k true
inserted_is {ms} {ps} sparse k within none =
    map-set is_member ps k (length ms) ∙ ap (λ (x : Bool). set (map is_member ps) k x) (member_yes (length ms) (λ a. omega (arith, a, fewer sparse k within none, sparse.narrow)))

pub removed_is : (ps : List ℕ) (k : ℕ) → map is_member (set ps k absent) ≡ set (map is_member ps) k false
removed_is ps k = map-set is_member ps k absent

pub moved_is :
    (front ps : List ℕ) (k last room : ℕ) → IsSparse (front ++ last ∷ []) ps room → k < length ps → get_or ps k 0 ≢ absent → last ≢ k
    → map is_member (set (set ps k absent) last (get_or ps k 0)) ≡ set (map is_member ps) k false
moved_is front ps k last room sparse within is_in differ =
    map-set is_member (set ps k absent) last (get_or ps k 0)
    ∙ (ap (λ (x : Bool). set (map is_member (set ps k absent)) last x) (member_yes (get_or ps k 0) is_in)
    ∙ (sym (flag-kept (map is_member (set ps k absent)) last true was) ∙ removed_is ps k))
  where
    end : (last < length ps) × (get_or ps last 0 ≡ length front)
    end = rw (get_or-append_seam front last [] 0) at (sparse.stands (length front) (omega (arith, length-append front (last ∷ []))))

    was : get_or (map is_member (set ps k absent)) last false ≡ true
    was = flag_in (set ps k absent) last (rw (length-set ps k absent) end.0) (λ a. omega (arith, few sparse, sparse.narrow, length-append front (last ∷ []), a, end.1, get_or-set_other ps k last absent 0 differ))

pub last_in : (front ps : List ℕ) (k room : ℕ) → IsSparse (front ++ k ∷ []) ps room → (k < length ps) × (get_or (map is_member ps) k false ≡ true)
last_in front ps k room sparse =
    let end : (k < length ps) × (get_or ps k 0 ≡ length front) = rw (get_or-append_seam front k [] 0) at (sparse.stands (length front) (omega (arith, length-append front (k ∷ [])))) in
    (end.0, flag_in ps k end.0 (λ a. omega (arith, few sparse, sparse.narrow, length-append front (k ∷ []), a, end.1)))

pub none_in : (ps : List ℕ) (room : ℕ) → IsSparse [] ps room → (k : ℕ) → get_or (map is_member ps) k false ≡ false
none_in ps room sparse k = elim (cases_lt k (length ps)) [
  | inl l ↦ elim (cases_eq (get_or ps k 0) absent) [
    | inl e ↦ flag_at ps k l ∙ member_no (get_or ps k 0) e
    | inr ne ↦ let f = sparse.found k l ne in absurd (omega (arith, f.0))
  ]
  | inr g ↦ get_or_past (map is_member ps) k false (rw length-map g)
]

pub flags_none : (n : ℕ) → map is_member (replicate n absent) ≡ replicate n false
flags_none zero = refl
flags_none (suc n) = ap (λ (l : List Bool). false ∷ l) (flags_none n)

-- a key of a set that is seen
pub seen : (ps : List ℕ) (flags : List Bool) (k : ℕ) → map is_member ps ≡ flags → k < length flags → k < length ps
seen ps flags k e h = let l = ap (λ (f : List Bool). length f) e in omega (arith, length-map ps is_member, l, h)
