-- What the calls of the cache leave, in the words on items.
use Rattle.std.proofs.Common.{◌≡◌, ℕ, zero, suc, ◌-◌, ◌≤◌, ◌^◌, Bool, true, false, cond, not, List, [], ◌∷◌, length, take, slice_get, option_map, Option, Some, None, IfSome, Result, Ok, Err, OnErr, refl, sym, ap, ap₂, subst, ◌∙◌, arith}
use Rattle.std.specs.List.{filter, AllByRecursion, IsDistinct}
use Rattle.std.specs.Map.{keys_of, lookup, lookup_entry, remove_entry, set_value}
use Rattle.std.specs.Option.{option_map_or}
use Rattle.std.proofs.lemmas.List.{take_all}
use Rattle.std.proofs.lemmas.Map.Made.{IsDistinct-keys_filter}
use Rattle.lru.specs.LruCache.{lru_cache, last_entry, promoted, put_entries}
use Rattle.mc_item.specs.Expiry.{is_expired}
use Rattle.mc_model.specs.declared.item.Item.{Item}
use Rattle.mc_model.specs.Items.{Items, same_key, item_at, first, without, live}
use Rattle.mc_model.proofs.ItemFacts.{filter_swap, filter_stricter, filter_all, same_key-refl, same_key-true}

abbrev pub AreApart : Items → Type 0
AreApart items = IsDistinct same_key (keys_of items)

-- no entry has this key
abbrev pub IsAbsent : List ℕ → Items → Type 0
IsAbsent key items = AllByRecursion (λ q. same_key key q ≡ false) (keys_of items)

-- ---- one key

same_key-swap : (key q : List ℕ) → same_key key q ≡ true → same_key q key ≡ true
same_key-swap key q e = ap (λ k. same_key q k) (same_key-true key q e) ∙ same_key-refl q

pub same_key-comm : (key q : List ℕ) → same_key key q ≡ same_key q key
same_key-comm key q = (elim (same_key key q) as (λ b. same_key key q ≡ b → b ≡ same_key q key) [
  | true ↦ λ e. sym (same_key-swap key q e)
  | false ↦ λ e. (elim (same_key q key) as (λ b. same_key q key ≡ b → false ≡ b) [
    | true ↦ λ f. absurd (let g = same_key-swap q key f in cc)
    | false ↦ λ f. refl
  ]) refl
]) refl

-- the same test for two names of one key
pub same_key-same : (key other q : List ℕ) → same_key key other ≡ true → same_key q key ≡ same_key q other
same_key-same key other q e = ap (same_key q) (same_key-true key other e)

-- ---- without a key

absent_filter : (key : List ℕ) (items : Items) → IsAbsent key items → without items key ≡ items
unfolding without
absent_filter key [] h = refl
absent_filter key (e ∷ items) h = rw h.0 (ap (λ l. e ∷ l) (absent_filter key items h.1))

-- the cache takes one entry out, which is the only one of its key
pub remove_entry-without : (items : Items) (key : List ℕ) → AreApart items → remove_entry (same_key key) items ≡ without items key
unfolding without IsDistinct
remove_entry-without [] key h = refl
remove_entry-without (e ∷ items) key h = (elim (same_key key e.0) as (λ b. same_key key e.0 ≡ b → cond b items (e ∷ remove_entry (same_key key) items) ≡ cond (not b) (e ∷ without items key) (without items key)) [
  | true ↦ λ f. sym (ap (λ k. without items k) (same_key-true key e.0 f) ∙ absent_filter e.0 items h.0)
  | false ↦ λ f. ap (λ l. e ∷ l) (remove_entry-without items key h.1)
]) refl

-- what is not found is not there
pub without-none : (items : Items) (key : List ℕ) → item_at items key ≡ None → without items key ≡ items
unfolding without
without-none [] key h = refl
without-none (e ∷ items) key h = (elim (same_key key e.0) as (λ b. cond b (Some e.1) (item_at items key) ≡ None → cond (not b) (e ∷ without items key) (without items key) ≡ e ∷ items) [
  | true ↦ λ f. absurd cc
  | false ↦ λ f. ap (λ l. e ∷ l) (without-none items key f)
]) h

pub item_at-without : (items : Items) (key q : List ℕ) → item_at (without items key) q ≡ cond (same_key key q) None (item_at items q)
unfolding without
item_at-without [] key q = (elim (same_key key q) as (λ b. ◌≡◌ {A = Option Item} None (cond b None None)) [ true ↦ refl | false ↦ refl ])
item_at-without (e ∷ items) key q = (elim (same_key key e.0) as (λ b. same_key key e.0 ≡ b → item_at (cond (not b) (e ∷ without items key) (without items key)) q ≡ cond (same_key key q) None (cond (same_key q e.0) (Some e.1) (item_at items q))) [
  | true ↦ λ f. item_at-without items key q ∙ rw (← same_key-same key e.0 q f, same_key-comm q key)
      (elim (same_key key q) as (λ b. cond b None (item_at items q) ≡ cond b None (cond b (Some e.1) (item_at items q))) [ true ↦ refl | false ↦ refl ])
  | false ↦ λ f. (elim (same_key q e.0) as (λ b. same_key q e.0 ≡ b → cond b (Some e.1) (item_at (without items key) q) ≡ cond (same_key key q) None (cond b (Some e.1) (item_at items q))) [
    | true ↦ λ g. (elim (same_key key q) as (λ b. same_key key q ≡ b → Some e.1 ≡ cond b None (Some e.1)) [
      | true ↦ λ i. absurd (let j = sym (same_key-same q e.0 key g) ∙ i in cc)
      | false ↦ λ i. refl
    ]) refl
    | false ↦ λ g. item_at-without items key q
  ]) refl
]) refl

-- ---- a key that goes first

pub item_at-first : (items : Items) (key : List ℕ) (v : Item) (q : List ℕ) → item_at (first items key v) q ≡ cond (same_key key q) (Some v) (item_at items q)
unfolding first
item_at-first items key v q = rw (same_key-comm q key, item_at-without items key q)
    (elim (same_key key q) as (λ b. cond b (Some v) (cond b None (item_at items q)) ≡ cond b (Some v) (item_at items q)) [ true ↦ refl | false ↦ refl ])

pub apart-without : (items : Items) (key : List ℕ) → AreApart items → AreApart (without items key)
unfolding without
apart-without items key h = IsDistinct-keys_filter same_key (λ e. not (same_key key e.0)) items h

absent_there : (items : Items) (key : List ℕ) → IsAbsent key (without items key)
unfolding without
absent_there [] key = tt
absent_there (e ∷ items) key = (elim (same_key key e.0) as (λ b. same_key key e.0 ≡ b → IsAbsent key (cond (not b) (e ∷ without items key) (without items key))) [
  | true ↦ λ f. absent_there items key
  | false ↦ λ f. (f, absent_there items key)
]) refl

pub apart-first : (items : Items) (key : List ℕ) (v : Item) → AreApart items → AreApart (first items key v)
unfolding first IsDistinct
apart-first items key v h = (absent_there items key, apart-without items key h)

-- ---- what a look-up finds

pub entry_of : (items : Items) (key : List ℕ) (v : Item) → item_at items key ≡ Some v → lookup_entry (same_key key) items ≡ Some (key, v)
entry_of [] key v h = absurd cc
entry_of (e ∷ items) key v h = (elim (same_key key e.0) as (λ b. same_key key e.0 ≡ b → cond b (Some e.1) (item_at items key) ≡ Some v → cond b (Some e) (lookup_entry (same_key key) items) ≡ Some (key, v)) [
  | true ↦ λ f g. let same : e.1 ≡ v = cc in ap₂ (λ k w. Some (k, w)) (sym (same_key-true key e.0 f)) same
  | false ↦ λ f g. entry_of items key v g
]) refl h

pub no_entry : (items : Items) (key : List ℕ) → item_at items key ≡ None → lookup_entry (same_key key) items ≡ None
no_entry [] key h = refl
no_entry (e ∷ items) key h = (elim (same_key key e.0) as (λ b. cond b (Some e.1) (item_at items key) ≡ None → cond b (Some e) (lookup_entry (same_key key) items) ≡ None) [
  | true ↦ λ g. absurd cc
  | false ↦ λ g. no_entry items key g
]) h

-- the entry taken out, and its key
pub entry_item : (items : Items) (key : List ℕ) → option_map (λ (e : List ℕ × Item). e.1) (lookup_entry (same_key key) items) ≡ item_at items key
entry_item [] key = refl
entry_item (e ∷ items) key = (elim (same_key key e.0) as (λ b. option_map (λ (x : List ℕ × Item). x.1) (cond b (Some e) (lookup_entry (same_key key) items)) ≡ cond b (Some e.1) (item_at items key)) [
  | true ↦ refl
  | false ↦ entry_item items key
])

pub entry_key : (items : Items) (key : List ℕ) → IfSome (lookup_entry (same_key key) items) (λ e. e.0 ≡ key)
entry_key [] key = tt
entry_key (e ∷ items) key = (elim (same_key key e.0) as (λ b. same_key key e.0 ≡ b → IfSome (cond b (Some e) (lookup_entry (same_key key) items)) (λ x. x.0 ≡ key)) [
  | true ↦ λ f. sym (same_key-true key e.0 f)
  | false ↦ λ f. entry_key items key
]) refl

-- ---- the cache's own words

pub promoted-first : (items : Items) (key : List ℕ) (v : Item) → AreApart items → item_at items key ≡ Some v → promoted (same_key key) items ≡ first items key v
unfolding first
promoted-first items key v apart h = rw (entry_of items key v h) (ap (λ l. (key, v) ∷ l) (remove_entry-without items key apart))

pub used_first : (items new : Items) (key : List ℕ) (o : Option Item) → AreApart items → item_at items key ≡ o → new ≡ promoted (same_key key) items → IfSome o (λ v. new ≡ first items key v)
used_first items new key None apart h is = tt
used_first items new key (Some v) apart h is = is ∙ promoted-first items key v apart h

pub put-first : (items : Items) (cap bound : ℕ) (key : List ℕ) (v : Item) → AreApart items → length items ≤ bound → bound ≤ 65536 → cap ≡ 2 ^ 64 - 1
    → put_entries same_key (lru_cache items cap) key v ≡ first items key v
unfolding first
put-first items cap bound key v apart few most far = (elim (item_at items key) as (λ o. item_at items key ≡ o → put_entries same_key (lru_cache items cap) key v ≡ (key, v) ∷ without items key) [
  | None ↦ λ h. rw (no_entry items key h, without-none items key h) (ap (λ l. (key, v) ∷ l) (take_all (cap - 1) items (omega arith)))
  | Some w ↦ λ h. rw (entry_of items key w h) (ap (λ l. (key, v) ∷ l) (remove_entry-without items key apart))
]) refl

-- written where it stands first
pub written_first : (items : Items) (key : List ℕ) (v w : Item) → AreApart items → item_at items key ≡ Some v → set_value (same_key key) (promoted (same_key key) items) w ≡ first items key w
unfolding first
written_first items key v w apart h = ap (λ l. set_value (same_key key) l w) (promoted-first items key v apart h) ∙ rw (same_key-refl key) refl

-- written where it stands
keys-set : (items : Items) (key : List ℕ) (w : Item) → keys_of (set_value (same_key key) items w) ≡ keys_of items
keys-set [] key w = refl
keys-set (e ∷ items) key w = (elim (same_key key e.0) as (λ b. keys_of (cond b ((e.0, w) ∷ items) (e ∷ set_value (same_key key) items w)) ≡ e.0 ∷ keys_of items) [
  | true ↦ refl
  | false ↦ ap (λ l. e.0 ∷ l) (keys-set items key w)
])

item_at-set : (items : Items) (key : List ℕ) (v w : Item) → item_at items key ≡ Some v → item_at (set_value (same_key key) items w) key ≡ Some w
item_at-set [] key v w h = absurd cc
item_at-set (e ∷ items) key v w h = (elim (same_key key e.0) as (λ b. same_key key e.0 ≡ b → cond b (Some e.1) (item_at items key) ≡ Some v → item_at (cond b ((e.0, w) ∷ items) (e ∷ set_value (same_key key) items w)) key ≡ Some w) [
  | true ↦ λ f g. rw f refl
  | false ↦ λ f g. rw f (item_at-set items key v w g)
]) refl h

without-set : (items : Items) (key : List ℕ) (w : Item) → without (set_value (same_key key) items w) key ≡ without items key
unfolding without
without-set [] key w = refl
without-set (e ∷ items) key w = (elim (same_key key e.0) as (λ b. same_key key e.0 ≡ b → without (cond b ((e.0, w) ∷ items) (e ∷ set_value (same_key key) items w)) key ≡ cond (not b) (e ∷ without items key) (without items key)) [
  | true ↦ λ f. rw f refl
  | false ↦ λ f. rw f (ap (λ l. e ∷ l) (without-set items key w))
]) refl

pub set_then_first : (items : Items) (key : List ℕ) (v w : Item) → AreApart items → item_at items key ≡ Some v → promoted (same_key key) (set_value (same_key key) items w) ≡ first items key w
unfolding first
set_then_first items key v w apart h =
    promoted-first (set_value (same_key key) items w) key w (subst (IsDistinct same_key) (sym (keys-set items key w)) apart) (item_at-set items key v w h)
    ∙ ap (λ l. (key, w) ∷ l) (without-set items key w)

-- what was there is written again
pub set-same : (items : Items) (key : List ℕ) (v : Item) → item_at items key ≡ Some v → set_value (same_key key) items v ≡ items
set-same [] key v h = absurd cc
set-same (e ∷ items) key v h = (elim (same_key key e.0) as (λ b. cond b (Some e.1) (item_at items key) ≡ Some v → cond b ((e.0, v) ∷ items) (e ∷ set_value (same_key key) items v) ≡ e ∷ items) [
  | true ↦ λ g. let same : e.1 ≡ v = cc in ap (λ w. (e.0, w) ∷ items) (sym same)
  | false ↦ λ g. ap (λ l. e ∷ l) (set-same items key v g)
]) h

-- what is written through a reference, in the one form and the other
wrote_first : (items : Items) (key : List ℕ) (change : Item → Item) (v : Item) → AreApart items → Some v ≡ item_at items key
    → IfSome (item_at items key) (λ item. set_value (same_key key) (promoted (same_key key) items) (change v) ≡ first items key (change item))
wrote_first items key change v apart h = subst (λ o. IfSome o (λ item. set_value (same_key key) (promoted (same_key key) items) (change v) ≡ first items key (change item))) h (written_first items key v (change v) apart (sym h))

-- the same, of what was written
pub written_as : (items : Items) (key : List ℕ) (change : Item → Item) (v w : Item) → AreApart items → Some v ≡ item_at items key → w ≡ change v
    → IfSome (item_at items key) (λ item. set_value (same_key key) (promoted (same_key key) items) w ≡ first items key (change item))
written_as items key change v w apart h is =
    subst (λ x. IfSome (item_at items key) (λ item. set_value (same_key key) (promoted (same_key key) items) x ≡ first items key (change item))) (sym is)
    (wrote_first items key change v apart h)

pub wrote_then_first : (items new : Items) (key : List ℕ) (change : Item → Item) (v : Item) → AreApart items → Some v ≡ item_at items key
    → new ≡ promoted (same_key key) (set_value (same_key key) items (change v)) → IfSome (item_at items key) (λ item. new ≡ first items key (change item))
wrote_then_first items new key change v apart h is = subst (λ o. IfSome o (λ item. new ≡ first items key (change item))) h (is ∙ set_then_first items key v (change v) apart (sym h))

pub on_err : {X E P : Type 0} (r : Result X E) → P → OnErr r P
on_err (Ok x) p = tt
on_err (Err e) p = p

-- the last one
pub absent_last : (key : List ℕ) (items : Items) (n : ℕ) (e : List ℕ × Item) → IsAbsent key items → slice_get items n ≡ Some e → same_key key e.0 ≡ false
absent_last key [] n e h at = absurd cc
absent_last key (x ∷ items) zero e h at = let same : x ≡ e = cc in ap (λ y. same_key key y.0) (sym same) ∙ h.0
absent_last key (x ∷ items) (suc n) e h at = absent_last key items n e h.1 at

pub last_without : (items : Items) (n : ℕ) (e : List ℕ × Item) → AreApart items → length items ≡ suc n → slice_get items n ≡ Some e → take n items ≡ without items e.0
unfolding without IsDistinct
last_without [] n e apart is at = absurd (omega arith)
last_without (x ∷ []) zero e apart is at = let same : x ≡ e = cc in rw (ap (λ y. same_key y.0 x.0) (sym same), same_key-refl x.0) refl
last_without (x ∷ []) (suc n) e apart is at = absurd (omega arith)
last_without (x ∷ y ∷ items) zero e apart is at = absurd (omega arith)
last_without (x ∷ y ∷ items) (suc n) e apart is at =
    let apart_last : same_key e.0 x.0 ≡ false = same_key-comm e.0 x.0 ∙ absent_last x.0 (y ∷ items) n e apart.0 at in
    rw apart_last (ap (λ l. x ∷ l) (last_without (y ∷ items) n e apart.1 (omega arith) at))

-- ---- what is not expired

-- of what a key has, what is not expired
abbrev pub kept : ℕ → Option Item → Option Item
kept now None = None
kept now (Some v) = cond (is_expired v.due now) None (Some v)

pub absent_item : (items : Items) (key other : List ℕ) → same_key key other ≡ true → IsAbsent other items → item_at items key ≡ None
absent_item [] key other same h = refl
absent_item (e ∷ items) key other same h = rw (ap (λ k. same_key k e.0) (same_key-true key other same), h.0) (absent_item items key other same h.1)

pub item_at-live : (items : Items) (now : ℕ) (key : List ℕ) → AreApart items → item_at (live now items) key ≡ kept now (item_at items key)
unfolding live IsDistinct
item_at-live [] now key apart = refl
item_at-live (e ∷ items) now key apart = (elim (same_key key e.0) as (λ b. same_key key e.0 ≡ b → item_at (cond (not (is_expired e.1.due now)) (e ∷ live now items) (live now items)) key ≡ kept now (cond b (Some e.1) (item_at items key))) [
  | true ↦ λ f. (elim (is_expired e.1.due now) as (λ b. item_at (cond (not b) (e ∷ live now items) (live now items)) key ≡ cond b None (Some e.1)) [
    | true ↦ item_at-live items now key apart.1 ∙ ap (kept now) (absent_item items key e.0 f apart.0)
    | false ↦ rw f refl
  ])
  | false ↦ λ f. (elim (is_expired e.1.due now) as (λ b. item_at (cond (not b) (e ∷ live now items) (live now items)) key ≡ kept now (item_at items key)) [
    | true ↦ item_at-live items now key apart.1
    | false ↦ rw f (item_at-live items now key apart.1)
  ])
]) refl

pub live-without : (now : ℕ) (items : Items) (key : List ℕ) → live now (without items key) ≡ without (live now items) key
unfolding live without
live-without now items key = filter_swap _ _ items

pub live-first : (now : ℕ) (items : Items) (key : List ℕ) (v : Item) → is_expired v.due now ≡ false → live now (first items key v) ≡ first (live now items) key v
unfolding first live without
live-first now items key v stays = rw stays (ap (λ l. (key, v) ∷ l) (filter_swap _ _ items))
