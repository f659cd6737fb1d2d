-- What a change of the live objects keeps of them: holds of 32 bits, places and tickets in range, a hold or a launch, and ids that rise.
-- Other crates import from this file.
use Rattle.std.proofs.Common.{◌≡◌, ◌≢◌, ℕ, ◌+◌, ◌-◌, ◌^◌, ◌<◌, ◌≤◌, Bool, true, false, not, cond, List, [], ◌∷◌, ◌++◌, length, map, filter, slice_index_or, slice_set, sum, inl, inr, refl, sym, ◌∙◌, ap, subst, arith, eq-eqb, ne_eqb, length-set, length-append, get_or-set_same}
use Rattle.std.specs.Prelude.{◌==◌, ◌||◌}
use Rattle.std.specs.List.{AllByRecursion, range_with_len, list_any}
use Rattle.std.proofs.lemmas.List.FromFn.{length-map-range_with_len, get_or-map-range_with_len}
use Rattle.std.specs.declared.option.Option.TheVariants.{Some}
use Rattle.std.specs.declared.cmp.Ordering.TheVariants.{Less}
use Rattle.std.specs.Ordering.{nat_cmp}
use Rattle.std.specs.Cmp.{nat_cmp_is}
use Rattle.std.specs.List.Sorted.{IsStrictlySortedBy}
use Rattle.std.proofs.lemmas.Bool.{cases_eq}
use Rattle.std.proofs.lemmas.List.{length-map}
use Rattle.std.proofs.lemmas.List.Sums.{get_or-le-sum_by, length-filter, count_by-le-length}
use Rattle.tm_seq.specs.declared.kind.Next.{Next}
use Rattle.tm_seq.specs.declared.kind.Next.TheVariants.{Ask, Done}
use Rattle.tm_batch.specs.declared.limits.TheConstants.{MOST_HOLDS}
use Rattle.tm_model.specs.State.{Start, Work, Object, holds_of, with_holds, total, change, kept, object_of}
use Rattle.tm_batch.specs.declared.config.First.{First}
use Rattle.tm_model.specs.Opening.{opened, is_named}
use Rattle.tm_model.specs.Serve.{works_resumed}
use Rattle.tm_core.proofs.CallerLemmas.{all_map, all_each, all_weaker, all_filter, all-append, all_set, all_at}
use Rattle.tm_core.proofs.Rising.{RisesTo}

pub filter_shorter : {X : Type 0} (p : X → Bool) (xs : List X) → length (filter p xs) ≤ length xs
filter_shorter p xs = rw (length-filter p xs) (count_by-le-length p xs)

pub resumed_works :
    {O R T : Type 0} → (n ticket : ℕ) (works : List (Work T)) (next : Next O T R) → AllByRecursion (λ w. (w.place < n) × (w.ticket < ticket)) works
    → AllByRecursion (λ w. (w.place < n) × (w.ticket < ticket)) (works_resumed works next)
resumed_works n ticket [] next h = tt
resumed_works n ticket (w ∷ works) (Ask u i op task) h = h
resumed_works n ticket (w ∷ works) (Done r) h = h.1

module _ {V T : Type 0} where
  -- numbers of holds and of places and tickets of launches are in range
  pub record HasBounds (n ticket : ℕ) (o : Object V T) : Type 0 where
    pub holds : AllByRecursion (λ h. h < 2 ^ 32) o.holds
    pub works : AllByRecursion (λ w. (w.place < n) × (w.ticket < ticket)) o.works

  -- and there is a hold or an unfinished launch
  abbrev pub IsBoundedObject : ℕ → ℕ → Object V T → Type 0
  IsBoundedObject n ticket o = HasBounds n ticket o × (1 ≤ total o)

  pub more_tickets : (n ticket : ℕ) (o : Object V T) → HasBounds n ticket o → HasBounds n (ticket + 1) o
  more_tickets n ticket o h = record {
    holds = h.holds;
    works = all_weaker (λ w. (w.place < n) × (w.ticket < ticket)) _ o.works (λ w k. let less = k.1 in (k.0, omega arith)) h.works;
  }

  pub all_change :
      (P Q : Object V T → Type 0) (id : ℕ) (f : Object V T → Object V T) (live : List (Object V T))
      → ((o : Object V T) → P o → Q o) → ((o : Object V T) → P o → Q (f o)) → AllByRecursion P live → AllByRecursion Q (change id f live)
  all_change P Q id f live each changed h =
      all_map P Q _ live (λ o p. elim (o.id == id) as (λ t. Q (cond t (f o) o)) [ true ↦ changed o p | false ↦ each o p ]) h

  pub all_change_above :
      (P : Object V T → Type 0) (n low next id : ℕ) (f : Object V T → Object V T) (live : List (Object V T))
      → id < low → RisesTo n low next live → AllByRecursion P live → AllByRecursion P (change id f live)
  all_change_above P n low next id f [] lt rises h = tt
  all_change_above P n low next id f (o ∷ live) lt rises h =
      let first = rises.0 in
      let ne : o.id ≢ id = omega arith in
      let more = all_change_above P n (o.id + 1) next id f live (omega arith) rises.2 h.1 in
      rw (ne_eqb o.id id ne) (h.0, more)

  -- with ids that rise, a change of an id is a change of the object that is found
  pub all_change_found :
      (P : Object V T → Type 0) (n low next id : ℕ) (f : Object V T → Object V T) (live : List (Object V T)) (x : Object V T)
      → RisesTo n low next live → object_of live id ≡ Some x → (length x.holds ≡ n → P x → P (f x)) → AllByRecursion P live
      → AllByRecursion P (change id f live)
  all_change_found P n low next id f [] x rises at changed h = tt
  all_change_found P n low next id f (o ∷ live) x rises at changed h =
      elim (cases_eq o.id id) [
        | inl e ↦
            let here : (o.id == id) ≡ true = eq-eqb o.id id e in
            let at' = rw here at at in
            let is : o ≡ x = cc in
            let rest = all_change_above P n (o.id + 1) next id f live (omega (arith, e)) rises.2 h.1 in
            rw here (subst (λ y. P (f y)) (sym is) (changed (subst (λ y. length y.holds ≡ n) is rises.1) (subst P is h.0)), rest)
        | inr ne ↦
            let elsewhere : (o.id == id) ≡ false = ne_eqb o.id id ne in
            let later = rw elsewhere at at in
            rw elsewhere (h.0, all_change_found P n (o.id + 1) next id f live x rises.2 later changed h.1)
      ]

  -- objects that stay have a hold or an unfinished launch
  pub kept_bounded : (n ticket : ℕ) (live : List (Object V T)) → AllByRecursion (HasBounds n ticket) live → AllByRecursion (IsBoundedObject n ticket) (kept live)
  kept_bounded n ticket live h =
      all_weaker (λ o. HasBounds n ticket o × (not (total o == 0) ≡ true)) _ (kept live)
      (λ o k. (
        k.0,
        elim (cases_eq (total o) 0) [
          | inl e ↦ let is = eq-eqb (total o) 0 e in absurd (let no : not (total o == 0) ≡ true = k.1 in let bad : false ≡ true = sym (ap not is) ∙ no in cc)
          | inr ne ↦ omega (arith, ne)
        ],
      ))
      (all_filter (HasBounds n ticket) (λ o. not (total o == 0)) live h)

  pub held_bounded : (n ticket c : ℕ) (o : Object V T) (h : ℕ) → h < 2 ^ 32 → HasBounds n ticket o → HasBounds n ticket (with_holds c h o)
  held_bounded n ticket c o h lt b = record { holds = all_set (λ k. k < 2 ^ 32) o.holds c h lt b.holds; works = b.works }

  pub bounds_of : (n ticket : ℕ) (live : List (Object V T)) → AllByRecursion (IsBoundedObject n ticket) live → AllByRecursion (HasBounds n ticket) live
  bounds_of n ticket live h = all_weaker (IsBoundedObject n ticket) (HasBounds n ticket) live (λ o k. k.0) h

  pub change_as_long : (id : ℕ) (f : Object V T → Object V T) (live : List (Object V T)) → length (change id f live) ≡ length live
  change_as_long id f live = length-map live _

  pub granted_bounded :
      (n d id ticket next : ℕ) (live : List (Object V T)) (x : Object V T) → d < n → RisesTo n 1 next live → object_of live id ≡ Some x
      → holds_of x d < MOST_HOLDS → AllByRecursion (IsBoundedObject n ticket) live
      → AllByRecursion (IsBoundedObject n ticket) (change id (λ o. with_holds d (holds_of o d + 1) o) live)
  granted_bounded n d id ticket next live x lt rises at few h =
      all_change_found (IsBoundedObject n ticket) n 1 next id (λ o. with_holds d (holds_of o d + 1) o) live x rises at
      (λ long k.
      let within : d < length x.holds = omega (arith, long, lt) in
      let there : d < length (slice_set x.holds d (holds_of x d + 1)) = let same = length-set x.holds d (holds_of x d + 1) in omega (arith, same, within) in
      let le = get_or-le-sum_by (λ x. x) (slice_set x.holds d (holds_of x d + 1)) d 0 there in
      let own = get_or-set_same x.holds d (holds_of x d + 1) 0 within in
      (held_bounded n ticket d x (holds_of x d + 1) (omega (arith, few)) k.0, omega (arith, le, own)))
      h

  pub released_bounded :
      (n c id ticket : ℕ) (live : List (Object V T)) → AllByRecursion (IsBoundedObject n ticket) live
      → AllByRecursion (IsBoundedObject n ticket) (kept (change id (λ o. with_holds c (holds_of o c - 1) o) live))
  released_bounded n c id ticket live h =
      kept_bounded n ticket _
      (all_change (HasBounds n ticket) (HasBounds n ticket) id _ live (λ o k. k)
      (λ o k.
      let had : holds_of o c < 2 ^ 32 = all_at (λ m. m < 2 ^ 32) o.holds c 0 (omega arith) k.holds in
      held_bounded n ticket c o (holds_of o c - 1) (omega (arith, had)) k)
      (bounds_of n ticket live h))

  pub closed_bounded :
      (n c ticket : ℕ) (live : List (Object V T)) → AllByRecursion (IsBoundedObject n ticket) live
      → AllByRecursion (IsBoundedObject n ticket) (kept (map (λ o. with_holds c 0 o) live))
  closed_bounded n c ticket live h =
      kept_bounded n ticket _
      (all_map (HasBounds n ticket) (HasBounds n ticket) _ live (λ o k. held_bounded n ticket c o 0 (omega arith) k) (bounds_of n ticket live h))

  pub launched_bounded :
      (n c id ticket : ℕ) (task : T) (live : List (Object V T)) → c < n → AllByRecursion (IsBoundedObject n ticket) live
      → AllByRecursion (IsBoundedObject n (ticket + 1))
      (change id (λ o. record o { works = o.works ++ record { place = c; ticket = ticket; task = task; awaits = Start } ∷ [] }) live)
  launched_bounded n c id ticket task live lt h =
      all_change (IsBoundedObject n ticket) (IsBoundedObject n (ticket + 1)) id _ live (λ o k. (more_tickets n ticket o k.0, k.1))
      (λ o k. (
        record {
          holds = k.0.holds;
          works = all-append _ o.works _ (more_tickets n ticket o k.0).works ((lt, omega arith), tt);
        },
        let long = length-append o.works (record { place = c; ticket = ticket; task = task; awaits = Start } ∷ []) in omega (arith, long),
      ))
      h

  pub rises_end : (n low next : ℕ) (live : List (Object V T)) → RisesTo n low next live → low ≤ next
  rises_end n low next [] h = h
  rises_end n low next (o ∷ live) h = let first = h.0 in let last = rises_end n (o.id + 1) next live h.2 in omega (arith, first, last)

  -- with ids that rise, each id lies in between
  pub rises_all :
      (n low next : ℕ) (live : List (Object V T)) → RisesTo n low next live
      → AllByRecursion (λ o. ((low ≤ o.id) × (o.id < next)) × (length o.holds ≡ n)) live
  rises_all n low next [] h = tt
  rises_all n low next (o ∷ live) h =
      let first = h.0 in
      let last = rises_end n (o.id + 1) next live h.2 in (
        ((first, omega (arith, last)), h.1),
        all_weaker _ _ live (λ x k. let l = k.0.0 in ((omega (arith, l, first), k.0.1), k.1)) (rises_all n (o.id + 1) next live h.2),
      )

  pub rises_sorted : (n low next : ℕ) (live : List (Object V T)) → RisesTo n low next live → IsStrictlySortedBy nat_cmp (map (λ o. o.id) live)
  unfolding IsStrictlySortedBy
  rises_sorted n low next [] h = tt
  rises_sorted n low next (o ∷ live) h = (
    all_map _ (λ y. nat_cmp o.id y ≡ Less) (λ o. o.id) live (λ x k. let l = k.0.0 in sym (nat_cmp_is o.id x.id Less (omega (arith, l))))
        (rises_all n (o.id + 1) next live h.2),
    rises_sorted n (o.id + 1) next live h.2,
  )

-- an object of the build has a hold of each holder
pub opened_long : {V : Type 0} (T : Type 0) (places id : ℕ) (first : List (First V)) → length (opened {V = V} {T = T} places id first) ≡ length first
opened_long T places id [] = refl
opened_long T places id (f ∷ first) = let more = opened_long T places (id + 1) first in omega (arith, more)

pub first_named : (holders : List ℕ) (places : ℕ) → holders ≢ [] → AllByRecursion (λ h. h < places) holders
    → (h : ℕ) × (h < places) × (list_any (λ x. x == h) holders ≡ true)
first_named [] places some below = absurd (some refl)
first_named (h ∷ holders) places some below = (h, below.0, ap (λ t. t || list_any (λ x. x == h) holders) (eq-eqb h h refl))

pub named_total :
    {V : Type 0} (places : ℕ) (f : First V) → f.holders ≢ [] → AllByRecursion (λ h. h < places) f.holders
    → 1 ≤ sum (map (λ c. cond (is_named c f) 1 0) (range_with_len 0 places)) + 0
named_total places f some below =
    let (h, lt, named) = first_named f.holders places some below in
    let holds : List ℕ = map (λ c. cond (is_named c f) 1 0) (range_with_len 0 places) in
    let long = length-map-range_with_len {X = ℕ} (λ c. cond (is_named c f) 1 0) 0 places in
    let le = get_or-le-sum_by (λ x. x) holds h 0 (omega (arith, long, lt)) in
    let at : slice_index_or holds h 0 ≡ cond (is_named h f) 1 0 = get_or-map-range_with_len (λ c. cond (is_named c f) 1 0) 0 places h h 0 lt (omega arith) in
    let one : ◌≡◌ {A = ℕ} (cond (is_named h f) 1 0) 1 = ap (λ t. cond t 1 0) named in
    omega (arith, le, at, one)

pub opened_bounded :
    {V : Type 0} (T : Type 0) (places id : ℕ) (first : List (First V))
    → AllByRecursion (λ f. (f.holders ≢ []) × AllByRecursion (λ h. h < places) f.holders) first
    → AllByRecursion (IsBoundedObject {V = V} {T = T} places 1) (opened places id first)
opened_bounded T places id [] h = tt
opened_bounded T places id (f ∷ first) h = (
  (
    record {
      holds = all_map (λ _. Unit {0}) (λ k. k < 2 ^ 32) _ (range_with_len 0 places)
          (λ c k. elim (is_named c f) as (λ t. cond t 1 0 < 2 ^ 32) [ true ↦ omega arith | false ↦ omega arith ]) (all_each (λ _. Unit {0}) (range_with_len 0 places) (λ c. tt));
      works = tt;
    },
    named_total places f h.0.0 h.0.1,
  ),
  opened_bounded T places (id + 1) first h.1,
)
