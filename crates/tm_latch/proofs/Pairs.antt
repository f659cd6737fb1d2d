-- What a change of one id does to a list of lines, and to a bucket of them.
use Rattle.std.proofs.Common.{◌≡◌, ◌≢◌, ℕ, ◌+◌, ◌%◌, ◌≤◌, [], ◌∷◌, ◌++◌, length, if◌then◌else◌, Option, Some, None, IsSome, refl, sym, ap, ◌∙◌, inl, inr, arith}
use mathlib.Core.Bool.{false≢true}
use Rattle.std.specs.Prelude.{⊤, ◌==◌}
use Rattle.std.proofs.lemmas.Bool.{cases_eq, eq-eqb, ne_eqb}
use Rattle.tm_latch.specs.declared.lines.Line.{Line}
use Rattle.tm_latch.specs.Lines.{Pairs, get, AreDistinct, SetsOnly, LosesOnly, in_bucket}

-- each id of the pairs is such
unfoldable pub AllIds : (ℕ → Type 0) → Pairs → Type 0
AllIds P [] = ⊤
AllIds P (p ∷ rest) = P p.0 × AllIds P rest

pub all_front : (P : ℕ → Type 0) (a b : Pairs) → AllIds P (a ++ b) → AllIds P a
unfolding AllIds
all_front P [] b all = tt
all_front P (p ∷ a) b all = (all.0, all_front P a b all.1)

pub all_back : (P : ℕ → Type 0) (a b : Pairs) → AllIds P (a ++ b) → AllIds P b
unfolding AllIds
all_back P [] b all = all
all_back P (p ∷ a) b all = all_back P a b all.1

pub all_first : (P : ℕ → Type 0) (p : ℕ × Line) (rest : Pairs) → AllIds P (p ∷ rest) → P p.0
unfolding AllIds
all_first P p rest all = all.0

pub all_both : (P Q : ℕ → Type 0) (l : Pairs) → AllIds P l → AllIds Q l → AllIds (λ i. P i × Q i) l
unfolding AllIds
all_both P Q [] p q = tt
all_both P Q (x ∷ l) p q = ((p.0, q.0), all_both P Q l p.1 q.1)

pub all_from : (P Q : ℕ → Type 0) → ((i : ℕ) → P i → Q i) → (l : Pairs) → AllIds P l → AllIds Q l
unfolding AllIds
all_from P Q f [] all = tt
all_from P Q f (x ∷ l) all = (f x.0 all.0, all_from P Q f l all.1)

-- an id that has no line is none of the ids
pub none_all : (l : Pairs) (id : ℕ) → get l id ≡ None → AllIds (λ i. i ≢ id) l
unfolding AllIds
none_all [] id none = tt
none_all (p ∷ l) id none = elim (cases_eq p.0 id) [
  | inl same ↦ let some : Some p.1 ≡ None = rw (eq-eqb p.0 id same) at none in absurd (cc)
  | inr other ↦ (other, none_all l id (rw (ne_eqb p.0 id other) at none))
]

pub all_none : (l : Pairs) (id : ℕ) → AllIds (λ i. i ≢ id) l → get l id ≡ None
unfolding AllIds
all_none [] id all = refl
all_none (p ∷ l) id all = rw (ne_eqb p.0 id all.0) (all_none l id all.1)

-- one pair more, behind the others
pub none_snoc : (a : Pairs) (p : ℕ × Line) (id : ℕ) → get a id ≡ None → p.0 ≢ id → get (a ++ p ∷ []) id ≡ None
none_snoc [] p id none differs = rw (ne_eqb p.0 id differs) refl
none_snoc (x ∷ a) p id none differs = elim (cases_eq x.0 id) [
  | inl same ↦ let some : Some x.1 ≡ None = rw (eq-eqb x.0 id same) at none in absurd (cc)
  | inr other ↦ rw (ne_eqb x.0 id other) (none_snoc a p id (rw (ne_eqb x.0 id other) at none) differs)
]

-- among distinct pairs no other has the id of one
pub distinct_split : (a : Pairs) (p : ℕ × Line) (b : Pairs) → AreDistinct (a ++ p ∷ b) → (get a p.0 ≡ None) × (get b p.0 ≡ None)
unfolding AreDistinct
distinct_split [] p b d = (refl, d.0)
distinct_split (x ∷ a) p b d =
    let rest = distinct_split a p b d.1 in
    let differs = all_first _ p b (all_back _ a (p ∷ b) (none_all (a ++ p ∷ b) x.0 d.0)) in
    (rw (ne_eqb x.0 p.0 (λ e. differs (sym e))) rest.0, rest.1)

-- a bucket
pub of_bucket : (n b : ℕ) (l : Pairs) → AllIds (λ i. i % n ≡ b) (in_bucket n b l)
unfolding AllIds
of_bucket n b [] = tt
of_bucket n b (p ∷ l) = elim (cases_eq (p.0 % n) b) [
  | inl same ↦ rw (eq-eqb (p.0 % n) b same) (same, of_bucket n b l)
  | inr other ↦ rw (ne_eqb (p.0 % n) b other) (of_bucket n b l)
]

-- the bucket of an id has its line
pub get_bucket : (n id : ℕ) (l : Pairs) → get (in_bucket n (id % n) l) id ≡ get l id
get_bucket n id [] = refl
get_bucket n id (p ∷ l) = elim (cases_eq p.0 id) [
  | inl same ↦ rw (eq-eqb (p.0 % n) (id % n) (ap (λ (i : ℕ). i % n) same), eq-eqb p.0 id same) refl
  | inr other ↦ elim (cases_eq (p.0 % n) (id % n)) [
    | inl here ↦ rw (eq-eqb (p.0 % n) (id % n) here, ne_eqb p.0 id other) (get_bucket n id l)
    | inr away ↦ rw (ne_eqb (p.0 % n) (id % n) away, ne_eqb p.0 id other) (get_bucket n id l)
  ]
]

bucket_none : (n b k : ℕ) (l : Pairs) → get l k ≡ None → get (in_bucket n b l) k ≡ None
bucket_none n b k [] none = refl
bucket_none n b k (p ∷ l) none = elim (cases_eq p.0 k) [
  | inl same ↦ let some : Some p.1 ≡ None = rw (eq-eqb p.0 k same) at none in absurd (cc)
  | inr other ↦
      let rest = bucket_none n b k l (rw (ne_eqb p.0 k other) at none) in
      elim (cases_eq (p.0 % n) b) [
        | inl here ↦ rw (eq-eqb (p.0 % n) b here, ne_eqb p.0 k other) rest
        | inr away ↦ rw (ne_eqb (p.0 % n) b away) rest
      ]
]

pub bucket_distinct : (n b : ℕ) (l : Pairs) → AreDistinct l → AreDistinct (in_bucket n b l)
unfolding AreDistinct
bucket_distinct n b [] d = tt
bucket_distinct n b (p ∷ l) d = elim (cases_eq (p.0 % n) b) [
  | inl here ↦ rw (eq-eqb (p.0 % n) b here) (bucket_none n b p.0 l d.0, bucket_distinct n b l d.1)
  | inr away ↦ rw (ne_eqb (p.0 % n) b away) (bucket_distinct n b l d.1)
]

pub bucket_length : (n b : ℕ) (l : Pairs) → length (in_bucket n b l) ≤ length l
bucket_length n b [] = omega arith
bucket_length n b (p ∷ l) = elim (cases_eq (p.0 % n) b) [
  | inl here ↦ rw (eq-eqb (p.0 % n) b here) (let rest = bucket_length n b l in omega (arith, rest))
  | inr away ↦ rw (ne_eqb (p.0 % n) b away) (let rest = bucket_length n b l in omega (arith, rest))
]

-- one pair more, before the others
pub bucket_cons_own : (n id : ℕ) (v : Line) (l : Pairs) → in_bucket n (id % n) ((id, v) ∷ l) ≡ (id, v) ∷ in_bucket n (id % n) l
bucket_cons_own n id v l = rw (eq-eqb (id % n) (id % n) refl) refl

pub bucket_cons_other : (n b id : ℕ) (v : Line) (l : Pairs) → b ≢ id % n → in_bucket n b ((id, v) ∷ l) ≡ in_bucket n b l
bucket_cons_other n b id v l differs = rw (ne_eqb (id % n) b (λ e. differs (sym e))) refl

pub sets_cons : (id : ℕ) (v : Line) (l : Pairs) → SetsOnly l ((id, v) ∷ l) id v
sets_cons id v l = record { this_key = rw (eq-eqb id id refl) refl; other_keys = λ k differs. rw (ne_eqb id k (λ e. differs (sym e))) refl }

-- a pair of this id in front, where there is a line
abbrev pub put : ℕ → Option Line → Pairs → Pairs
put id None rest = rest
put id (Some v) rest = (id, v) ∷ rest

-- the pairs, where the first of an id has another line or is gone
unfoldable pub change : ℕ → Option Line → Pairs → Pairs
change id slot [] = []
change id slot (p ∷ rest) = if p.0 == id then put id slot rest else p ∷ change id slot rest

module _ (id : ℕ) where
  put_own : (n : ℕ) (slot : Option Line) (l : Pairs) → in_bucket n (id % n) (put id slot l) ≡ put id slot (in_bucket n (id % n) l)
  put_own n None l = refl
  put_own n (Some v) l = bucket_cons_own n id v l

  put_other : (n b : ℕ) (slot : Option Line) (l : Pairs) → b ≢ id % n → in_bucket n b (put id slot l) ≡ in_bucket n b l
  put_other n b None l differs = refl
  put_other n b (Some v) l differs = bucket_cons_other n b id v l differs

  -- it is a change of its bucket alone
  pub bucket_change_own : (n : ℕ) (slot : Option Line) (l : Pairs) → in_bucket n (id % n) (change id slot l) ≡ change id slot (in_bucket n (id % n) l)
  unfolding change
  bucket_change_own n slot [] = refl
  bucket_change_own n slot (p ∷ l) = elim (cases_eq p.0 id) [
    | inl same ↦ rw (eq-eqb (p.0 % n) (id % n) (ap (λ (i : ℕ). i % n) same), eq-eqb p.0 id same) (put_own n slot l)
    | inr other ↦ elim (cases_eq (p.0 % n) (id % n)) [
      | inl here ↦ rw (ne_eqb p.0 id other, eq-eqb (p.0 % n) (id % n) here, ne_eqb p.0 id other) (ap (λ (r : Pairs). p ∷ r) (bucket_change_own n slot l))
      | inr away ↦ rw (ne_eqb p.0 id other, ne_eqb (p.0 % n) (id % n) away) (bucket_change_own n slot l)
    ]
  ]

  pub bucket_change_other : (n b : ℕ) (slot : Option Line) (l : Pairs) → b ≢ id % n → in_bucket n b (change id slot l) ≡ in_bucket n b l
  unfolding change
  bucket_change_other n b slot [] differs = refl
  bucket_change_other n b slot (p ∷ l) differs = elim (cases_eq p.0 id) [
    | inl same ↦ rw (eq-eqb p.0 id same, ne_eqb (p.0 % n) b (λ e. differs (sym e ∙ ap (λ (i : ℕ). i % n) same))) (put_other n b slot l differs)
    | inr other ↦ elim (cases_eq (p.0 % n) b) [
      | inl here ↦ rw (ne_eqb p.0 id other, eq-eqb (p.0 % n) b here) (ap (λ (r : Pairs). p ∷ r) (bucket_change_other n b slot l differs))
      | inr away ↦ rw (ne_eqb p.0 id other, ne_eqb (p.0 % n) b away) (bucket_change_other n b slot l differs)
    ]
  ]

  -- where its pair stands
  pub change_at : (slot : Option Line) (a : Pairs) (v : Line) (b : Pairs) → get a id ≡ None → change id slot (a ++ (id, v) ∷ b) ≡ a ++ put id slot b
  unfolding change
  change_at slot [] v b none = rw (eq-eqb id id refl) refl
  change_at slot (x ∷ a) v b none = elim (cases_eq x.0 id) [
    | inl same ↦ let some : Some x.1 ≡ None = rw (eq-eqb x.0 id same) at none in absurd (cc)
    | inr other ↦ rw (ne_eqb x.0 id other) (ap (λ (r : Pairs). x ∷ r) (change_at slot a v b (rw (ne_eqb x.0 id other) at none)))
  ]

  pub get_at : (a : Pairs) (v : Line) (b : Pairs) → get a id ≡ None → get (a ++ (id, v) ∷ b) id ≡ Some v
  get_at [] v b none = rw (eq-eqb id id refl) refl
  get_at (x ∷ a) v b none = elim (cases_eq x.0 id) [
    | inl same ↦ let some : Some x.1 ≡ None = rw (eq-eqb x.0 id same) at none in absurd (cc)
    | inr other ↦ rw (ne_eqb x.0 id other) (get_at a v b (rw (ne_eqb x.0 id other) at none))
  ]

  -- other ids keep their lines
  put_get : (slot : Option Line) (l : Pairs) (k : ℕ) → k ≢ id → get (put id slot l) k ≡ get l k
  put_get None l k differs = refl
  put_get (Some v) l k differs = rw (ne_eqb id k (λ e. differs (sym e))) refl

  change_other : (slot : Option Line) (l : Pairs) (k : ℕ) → k ≢ id → get (change id slot l) k ≡ get l k
  unfolding change
  change_other slot [] k differs = refl
  change_other slot (p ∷ l) k differs = elim (cases_eq p.0 id) [
    | inl same ↦ rw (eq-eqb p.0 id same, ne_eqb p.0 k (λ e. differs (sym e ∙ same))) (put_get slot l k differs)
    | inr other ↦ elim (cases_eq p.0 k) [
      | inl here ↦ rw (ne_eqb p.0 id other, eq-eqb p.0 k here) refl
      | inr away ↦ rw (ne_eqb p.0 id other, ne_eqb p.0 k away) (change_other slot l k differs)
    ]
  ]

  -- so it is to set or to lose the line of the id alone
  change_some : (v : Line) (l : Pairs) → IsSome (get l id) → get (change id (Some v) l) id ≡ Some v
  unfolding change
  change_some v [] some = absurd (false≢true some)
  change_some v (p ∷ l) some = elim (cases_eq p.0 id) [
    | inl same ↦ rw (eq-eqb p.0 id same, eq-eqb id id refl) refl
    | inr other ↦ rw (ne_eqb p.0 id other, ne_eqb p.0 id other) (change_some v l (rw (ne_eqb p.0 id other) at some))
  ]

  change_none : (l : Pairs) → AreDistinct l → get (change id None l) id ≡ None
  unfolding change AreDistinct
  change_none [] d = refl
  change_none (p ∷ l) d = elim (cases_eq p.0 id) [
    | inl same ↦ rw (eq-eqb p.0 id same) (rw same at d.0)
    | inr other ↦ rw (ne_eqb p.0 id other, ne_eqb p.0 id other) (change_none l d.1)
  ]

  pub sets_change : (v : Line) (l : Pairs) → IsSome (get l id) → SetsOnly l (change id (Some v) l) id v
  sets_change v l some = record { this_key = change_some v l some; other_keys = change_other (Some v) l }

  pub loses_change : (l : Pairs) → AreDistinct l → LosesOnly l (change id None l) id
  loses_change l d = record { this_key = change_none l d; other_keys = change_other None l }

  put_distinct : (slot : Option Line) (l : Pairs) → get l id ≡ None → AreDistinct l → AreDistinct (put id slot l)
  unfolding AreDistinct
  put_distinct None l none d = d
  put_distinct (Some v) l none d = (none, d)

  pub distinct_change : (slot : Option Line) (l : Pairs) → AreDistinct l → AreDistinct (change id slot l)
  unfolding change AreDistinct
  distinct_change slot [] d = tt
  distinct_change slot (p ∷ l) d = elim (cases_eq p.0 id) [
    | inl same ↦ rw (eq-eqb p.0 id same) (put_distinct slot l (rw same at d.0) d.1)
    | inr other ↦ rw (ne_eqb p.0 id other) (change_other slot l p.0 other ∙ d.0, distinct_change slot l d.1)
  ]

  pub length_set : (v : Line) (l : Pairs) → length (change id (Some v) l) ≡ length l
  unfolding change
  length_set v [] = refl
  length_set v (p ∷ l) = elim (cases_eq p.0 id) [
    | inl same ↦ rw (eq-eqb p.0 id same) refl
    | inr other ↦ rw (ne_eqb p.0 id other) (let rest = length_set v l in omega (arith, rest))
  ]

  pub length_lost : (l : Pairs) → IsSome (get l id) → length (change id None l) + 1 ≡ length l
  unfolding change
  length_lost [] some = absurd (false≢true some)
  length_lost (p ∷ l) some = elim (cases_eq p.0 id) [
    | inl same ↦ rw (eq-eqb p.0 id same) (omega arith)
    | inr other ↦ rw (ne_eqb p.0 id other) (let rest = length_lost l (rw (ne_eqb p.0 id other) at some) in omega (arith, rest))
  ]
