-- The steps of the items, as they are seen from outside.
use Rattle.std.proofs.Common.{◌≡◌, ℕ, zero, suc, ◌+◌, ◌-◌, ◌^◌, ◌<◌, ◌≤◌, Bool, true, false, cond, not, List, [], ◌∷◌, length, take, drop, Option, Some, None, IsSome, is_some, IfSome, option_map, refl, sym, ap, subst, ◌∙◌, arith}
use Rattle.std.proofs.lemmas.Bool.{leb-true, le-leb}
use Rattle.std.proofs.lemmas.List.{take_all, length-take}
use Rattle.std.proofs.lemmas.List.Sums.{length-filter, count_by-le-length}
use Rattle.std.specs.List.{filter, IsDistinct}
use Rattle.mc_item.specs.Expiry.{is_expired}
use Rattle.mc_item.specs.declared.expiry.Expiry.{Expiry}
use Rattle.mc_item.specs.declared.expiry.Expiry.TheVariants.{Never, At}
use Rattle.mc_model.specs.declared.item.Item.{Item}
use Rattle.mc_model.specs.Items.{Items, same_key, item_at, count_of, first, without, live}
use Rattle.mc_model.proofs.ItemFacts.{filter_stricter}
use Rattle.mc_shard.specs.Kept.{Kept, kept_at, with_late, after_settle, after_put, after_change, after_use, after_remove, due_of, IsPaired, IsInOrder}
use Rattle.mc_shard.proofs.CacheFacts.{kept, item_at-live, live-without, live-first}
use Rattle.mc_shard.proofs.IndexFacts.{paired_kept}

-- ---- what is expired stays so

pub still_expired : (due : Expiry) (now later : ℕ) → now ≤ later → is_expired due now ≡ true → is_expired due later ≡ true
still_expired Never now later le e = e
still_expired (At d) now later le e = le-leb d later (omega (arith, leb-true d now e))

pub live_before : (due : Expiry) (now later : ℕ) → now ≤ later → is_expired due later ≡ false → is_expired due now ≡ false
live_before due now later le e = (elim (is_expired due now) as (λ b. is_expired due now ≡ b → b ≡ false) [
  | true ↦ λ h. absurd (let g = still_expired due now later le h in cc)
  | false ↦ λ h. refl
]) refl

length-filter-le : {X : Type 0} (p : X → Bool) (xs : List X) → length (filter p xs) ≤ length xs
length-filter-le p xs = rw (length-filter p xs) (count_by-le-length p xs)

pub length-live-le : (now : ℕ) (es : Items) → length (live now es) ≤ length es
unfolding live
length-live-le now es = length-filter-le _ es

pub length-without-le : (es : Items) (key : List ℕ) → length (without es key) ≤ length es
unfolding without
length-without-le es key = length-filter-le _ es

pub length-without-less : (es : Items) (key : List ℕ) (w : Item) → item_at es key ≡ Some w → suc (length (without es key)) ≤ length es
unfolding without
length-without-less [] key w there = absurd cc
length-without-less (e ∷ es) key w there = (elim (same_key key e.0) as (λ b. cond b (Some e.1) (item_at es key) ≡ Some w → suc (length (cond (not b) (e ∷ without es key) (without es key))) ≤ suc (length es)) [
  | true ↦ λ h. let le = length-without-le es key in omega (arith, le)
  | false ↦ λ h. let less = length-without-less es key w h in omega (arith, less)
]) there

pub live_twice : (now : ℕ) (es : Items) → live now (live now es) ≡ live now es
unfolding live
live_twice now es = filter_stricter _ _ es (λ e h. h)

-- ---- the late item

abbrev IsLate : ℕ → Option (List ℕ × Item) → Type 0
IsLate moment late = IfSome late (λ e. is_expired e.1.due moment ≡ true)

-- the late item is not live
pub live_late : (now moment : ℕ) (late : Option (List ℕ × Item)) (es : Items) → moment ≤ now → IsLate moment late → live now (with_late late es) ≡ live now es
unfolding live
live_late now moment None es le h = refl
live_late now moment (Some e) es le h = rw (still_expired e.1.due moment now le h) refl

length-late-le : (late : Option (List ℕ × Item)) (es fs : Items) → length fs ≤ length es → length (with_late late fs) ≤ length (with_late late es)
length-late-le None es fs le = le
length-late-le (Some e) es fs le = omega arith

length-late : (late : Option (List ℕ × Item)) (es : Items) → length es ≤ length (with_late late es)
length-late None es = omega arith
length-late (Some e) es = omega arith

-- where all is live at its moment, none is late
pub none_late : (now : ℕ) (late : Option (List ℕ × Item)) (es rest : Items) → IsLate now late → with_late late es ≡ live now rest → late ≡ None
none_late now None es rest h is = refl
none_late now (Some e) es rest h is =
    let all : live now (e ∷ es) ≡ e ∷ es = ap (live now) is ∙ live_twice now rest ∙ sym is in
    let few = length-live-le now es in
    absurd (let gone = sym (live_late now now (Some e) es (omega arith) h) ∙ all in let lengths = ap length gone in omega (arith, few, lengths))

some_stays : (b : Bool) (w : Item) → IsSome (cond b None (Some w)) → b ≡ false
some_stays true w h = absurd cc
some_stays false w h = refl

-- no items
pub order_none : (es : Items) (cap : ℕ) (i : List (ℕ × List ℕ)) (moment bound : ℕ) → es ≡ [] → i ≡ [] → cap ≡ 2 ^ 64 - 1 → 1 ≤ bound → bound ≤ 65536 → IsInOrder es cap i None moment bound
unfolding live IsDistinct
order_none es cap i moment bound none empty far some most = rw (none, empty) (record {
  paired = record { apart = tt; told = λ m q. refl };
  fresh = refl;
  late_expired = tt;
  few = omega arith;
  some = some;
  most = most;
  unbounded = far;
})

pub is_kept : (w : Item) (now : ℕ) → not (is_expired w.due now) ≡ is_some (kept now (Some w))
is_kept w now = (elim (is_expired w.due now) as (λ b. not b ≡ is_some (cond b None (Some w))) [ true ↦ refl | false ↦ refl ])

-- ---- where items are in order

module _ (es : Items) (cap : ℕ) (i : List (ℕ × List ℕ)) (late : Option (List ℕ × Item)) (moment bound : ℕ) (o : IsInOrder es cap i late moment bound) where
  pub live_now : (now : ℕ) → moment ≤ now → live now (with_late late es) ≡ live now es
  live_now now le = live_late now moment late es le o.late_expired

  pub all_live_now : live moment (with_late late es) ≡ es
  all_live_now = live_now moment (omega arith) ∙ o.fresh

  pub few_kept : length es ≤ bound
  few_kept = let le = length-late late es in omega (arith, le, o.few)

  -- what a key has that is live
  pub item_now : (now : ℕ) (key : List ℕ) → moment ≤ now → item_at (live now (with_late late es)) key ≡ kept now (item_at es key)
  item_now now key le = ap (λ l. item_at l key) (live_now now le) ∙ item_at-live es now key o.paired.apart

  -- after settling
  pub order_settled : (fs : Items) (cap' now : ℕ) (j : List (ℕ × List ℕ)) → fs ≡ live now es → cap' ≡ cap → IsPaired fs j → IsInOrder fs cap' j None now bound
  order_settled fs cap' now j is same_cap paired = record {
    paired = paired;
    fresh = ap (live now) is ∙ live_twice now es ∙ sym is;
    late_expired = tt;
    few = let le = length-live-le now es in let fits = few_kept in let lengths = ap length is in omega (arith, le, fits, lengths);
    some = o.some;
    most = o.most;
    unbounded = same_cap ∙ o.unbounded;
  }

  pub settled_view : (fs : Items) (now : ℕ) → moment ≤ now → fs ≡ live now es → kept_at fs now bound ≡ after_settle (kept_at (with_late late es) moment bound) now
  settled_view fs now le is = ap (λ l. kept_at l now bound) (is ∙ sym (live_now now le))

  -- the same items, and another index
  pub order_same : (fs : Items) (cap' : ℕ) (j : List (ℕ × List ℕ)) → fs ≡ es → cap' ≡ cap → IsPaired fs j → IsInOrder fs cap' j late moment bound
  order_same fs cap' j same_items same_cap paired = record {
    paired = paired;
    fresh = ap (live moment) same_items ∙ o.fresh ∙ sym same_items;
    late_expired = o.late_expired;
    few = subst (λ l. length (with_late late l) ≤ bound) (sym same_items) o.few;
    some = o.some;
    most = o.most;
    unbounded = same_cap ∙ o.unbounded;
  }

  -- without a key
  pub order_without : (fs : Items) (cap' : ℕ) (j : List (ℕ × List ℕ)) (key : List ℕ) → fs ≡ without es key → cap' ≡ cap → IsPaired fs j → IsInOrder fs cap' j late moment bound
  order_without fs cap' j key is same_cap paired = record {
    paired = paired;
    fresh = ap (live moment) is ∙ live-without moment es key ∙ ap (λ l. without l key) o.fresh ∙ sym is;
    late_expired = o.late_expired;
    few = subst (λ l. length (with_late late l) ≤ bound) (sym is) (let le = length-late-le late es (without es key) (length-without-le es key) in omega (arith, le, o.few));
    some = o.some;
    most = o.most;
    unbounded = same_cap ∙ o.unbounded;
  }

  pub without_view : (fs : Items) (now : ℕ) (key : List ℕ) → moment ≤ now → fs ≡ without es key
      → after_settle (kept_at (with_late late fs) moment bound) now ≡ after_remove (kept_at (with_late late es) moment bound) now key
  without_view fs now key le is =
      ap (λ l. kept_at l now bound) (live_late now moment late fs le o.late_expired ∙ ap (live now) is ∙ live-without now es key ∙ ap (λ l. without l key) (sym (live_now now le)))

  -- an item that is there is changed, and goes first
  module _ (change : Item → Item) (now : ℕ) (key : List ℕ) (le : moment ≤ now) (stays : (w : Item) → is_expired w.due now ≡ false → is_expired (change w).due now ≡ false) where
    pub record IsThere : Type 0 where
      pub item : Item
      pub found : item_at es key ≡ Some item
      pub stays_live : is_expired item.due now ≡ false
      pub seen : item_at (live now (with_late late es)) key ≡ Some item

    there_of : (b : Option Item) → item_at es key ≡ b → IsSome (kept now b) → IsThere
    there_of None is h = absurd cc
    there_of (Some w) is h =
        let fresh = some_stays (is_expired w.due now) w h in
        record { item = w; found = is; stays_live = fresh; seen = item_now now key le ∙ ap (kept now) is ∙ rw fresh refl }

    pub there : IsSome (item_at (live now (with_late late es)) key) → IsThere
    there h = there_of (item_at es key) refl (subst (λ o. IsSome o) (item_now now key le) h)

    -- what the cache has then
    pub changed_is : (fs : Items) (t : IsThere) → IfSome (item_at es key) (λ w. fs ≡ first es key (change w)) → fs ≡ first es key (change t.item)
    changed_is fs t h = subst (λ o. IfSome o (λ w. fs ≡ first es key (change w))) t.found h

    pub order_changed : (fs : Items) (cap' : ℕ) (j : List (ℕ × List ℕ)) (t : IsThere) → fs ≡ first es key (change t.item) → cap' ≡ cap → IsPaired fs j → IsInOrder fs cap' j late moment bound
    unfolding first
    order_changed fs cap' j t is same_cap paired = record {
      paired = paired;
      fresh = ap (live moment) is ∙ live-first moment es key (change t.item) (live_before (change t.item).due moment now le (stays t.item t.stays_live)) ∙ ap (λ l. first l key (change t.item)) o.fresh ∙ sym is;
      late_expired = o.late_expired;
      few = subst (λ l. length (with_late late l) ≤ bound) (sym is)
          (let le = length-late-le late es (first es key (change t.item)) (length-without-less es key t.item t.found) in omega (arith, le, o.few));
      some = o.some;
      most = o.most;
      unbounded = same_cap ∙ o.unbounded;
    }

    first_live : (fs : Items) (t : IsThere) → fs ≡ first es key (change t.item) → live now (with_late late fs) ≡ first (live now (with_late late es)) key (change t.item)
    first_live fs t is =
        live_late now moment late fs le o.late_expired ∙ ap (live now) is ∙ live-first now es key (change t.item) (stays t.item t.stays_live)
        ∙ ap (λ l. first l key (change t.item)) (sym (live_now now le))

    pub use_view : (fs : Items) (t : IsThere) → fs ≡ first es key (change t.item)
        → after_settle (kept_at (with_late late fs) moment bound) now ≡ after_use change (kept_at (with_late late es) moment bound) now key (item_at (live now (with_late late es)) key)
    use_view fs t is = ap (λ l. kept_at l now bound) (first_live fs t is) ∙ sym (ap (after_use change (kept_at (with_late late es) moment bound) now key) t.seen)

    few_first : (t : IsThere) → length (first (live now (with_late late es)) key (change t.item)) ≤ bound
    unfolding first
    few_first t =
        let less = length-without-less (live now (with_late late es)) key t.item t.seen in
        let fewer = length-live-le now (with_late late es) in
        omega (arith, less, fewer, o.few)

    pub put_view : (fs : Items) (t : IsThere) → fs ≡ first es key (change t.item)
        → after_settle (kept_at (with_late late fs) moment bound) now ≡ after_change change (kept_at (with_late late es) moment bound) now key (item_at (live now (with_late late es)) key)
    put_view fs t is =
        ap (λ l. kept_at l now bound) (first_live fs t is ∙ sym (take_all bound (first (live now (with_late late es)) key (change t.item)) (few_first t)))
        ∙ sym (ap (after_change change (kept_at (with_late late es) moment bound) now key) t.seen)

    -- where the due stays, so does the index
    pub paired_changed : (fs : Items) (t : IsThere) → fs ≡ first es key (change t.item) → (change t.item).due ≡ t.item.due → IsPaired fs i
    paired_changed fs t is same_due = subst (λ l. IsPaired l i) (sym is) (paired_kept es i key (change t.item) o.paired (same_due ∙ ap due_of (sym t.found)))

-- ---- an item that is late

-- the items at a moment that is settled, without a key
pub record IsSettled (now : ℕ) (k : Kept) (key : List ℕ) (es : Items) (late : Option (List ℕ × Item)) (moment bound : ℕ) : Type 0 where
  pub none : late ≡ None
  pub items : es ≡ without (live now k.items) key
  pub at : moment ≡ now
  pub size : bound ≡ k.bound

pub settled_parts :
    (now : ℕ) (k : Kept) (key : List ℕ) (es : Items) (cap : ℕ) (i : List (ℕ × List ℕ)) (late : Option (List ℕ × Item)) (moment bound : ℕ)
    → IsInOrder es cap i late moment bound → kept_at (with_late late es) moment bound ≡ after_remove k now key → IsSettled now k key es late moment bound
settled_parts now k key es cap i late moment bound o is =
    let at : moment ≡ now = ap (λ (k : Kept). k.moment) is in
    let all : with_late late es ≡ without (live now k.items) key = ap (λ (k : Kept). k.items) is in
    let none : late ≡ None = none_late now late es (without k.items key) (subst (λ m. IsLate m late) at o.late_expired) (all ∙ sym (live-without now k.items key)) in
    record {
      none = none;
      items = ap (λ l. with_late l es) (sym none) ∙ all;
      at = at;
      size = ap (λ (k : Kept). k.bound) is;
    }

pub order_late :
    (es fs : Items) (cap cap' : ℕ) (i j : List (ℕ × List ℕ)) (late : Option (List ℕ × Item)) (moment bound : ℕ) (key : List ℕ) (v : Item)
    → IsInOrder es cap i late moment bound → live moment fs ≡ fs → cap' ≡ cap → IsPaired fs j → is_expired v.due moment ≡ true → suc (length fs) ≤ bound → IsInOrder fs cap' j (Some (key, v)) moment bound
order_late es fs cap cap' i j late moment bound key v o fresh same_cap paired expired few = record {
  paired = paired;
  fresh = fresh;
  late_expired = expired;
  few = few;
  some = o.some;
  most = o.most;
  unbounded = same_cap ∙ o.unbounded;
}

some_of : (o : Option Item) → IsSome o → (w : Item) × (o ≡ Some w)
some_of None h = absurd cc
some_of (Some w) h = (w, refl)

pub few_used : (now : ℕ) (k : Kept) (key : List ℕ) (es : Items) (late : Option (List ℕ × Item)) (moment bound : ℕ)
    → length k.items ≤ k.bound → IsSettled now k key es late moment bound → IsSome (item_at (live now k.items) key) → suc (length es) ≤ bound
few_used now k key es late moment bound few s there =
    let w = some_of (item_at (live now k.items) key) there in
    let less = length-without-less (live now k.items) key w.0 w.1 in
    let fewer = length-live-le now k.items in
    let lengths = ap length s.items in
    omega (arith, less, fewer, lengths, s.size, few)

pub none_taken : (r : Option (List ℕ × Item)) (o : Option Item) → option_map (λ (e : List ℕ × Item). e.1) r ≡ o → r ≡ None → IsSome o → ⊥
none_taken None o is none there = let none_there : None ≡ o = is in cc
none_taken (Some e) o is none there = cc

pub use_late_view :
    (now : ℕ) (k : Kept) (key other : List ℕ) (change : Item → Item) (w : Item) (es : Items) (late : Option (List ℕ × Item)) (moment bound : ℕ)
    → IsSettled now k key es late moment bound → other ≡ key → item_at (live now k.items) key ≡ Some w
    → kept_at ((other, change w) ∷ es) moment bound ≡ after_use change k now key (item_at (live now k.items) key)
unfolding first
use_late_view now k key other change w es late moment bound s same_name seen =
    ap (λ n. kept_at ((n, change w) ∷ es) moment bound) same_name
    ∙ ap (λ l. kept_at ((key, change w) ∷ l) moment bound) s.items
    ∙ ap (λ m. kept_at ((key, change w) ∷ without (live now k.items) key) m bound) s.at
    ∙ ap (λ b. kept_at ((key, change w) ∷ without (live now k.items) key) now b) s.size
    ∙ sym (ap (after_use change k now key) seen)

cons_take : {X : Type 0} (n : ℕ) (x : X) (xs : List X) → 1 ≤ n → x ∷ take (n - 1) xs ≡ take n (x ∷ xs)
cons_take n x xs le = let is : n ≡ suc (n - 1) = omega arith in sym (ap (λ m. take m (x ∷ xs)) is)

pub put_late_view :
    (now : ℕ) (k : Kept) (key : List ℕ) (v : Item) (es fs : Items) (late : Option (List ℕ × Item)) (moment bound : ℕ)
    → IsSettled now k key es late moment bound → 1 ≤ bound → fs ≡ take (bound - 1) es → kept_at ((key, v) ∷ fs) moment bound ≡ after_put k now key v
unfolding first
put_late_view now k key v es fs late moment bound s some is =
    ap (λ l. kept_at ((key, v) ∷ l) moment bound) (is ∙ ap (take (bound - 1)) s.items)
    ∙ ap (λ l. kept_at l moment bound) (cons_take bound (key, v) (without (live now k.items) key) some)
    ∙ ap (λ m. kept_at (take bound ((key, v) ∷ without (live now k.items) key)) m bound) s.at
    ∙ ap (λ b. kept_at (take b ((key, v) ∷ without (live now k.items) key)) now b) s.size

-- what is live stays so in a front
filter_cut : (now n : ℕ) (es : Items) → live now es ≡ es → live now (take n es) ≡ take n es
unfolding live
filter_cut now zero es h = refl
filter_cut now (suc n) [] h = refl
filter_cut now (suc n) (e ∷ es) h = (elim (is_expired e.1.due now) as (λ b. cond (not b) (e ∷ live now es) (live now es) ≡ e ∷ es → cond (not b) (e ∷ live now (take n es)) (live now (take n es)) ≡ e ∷ take n es) [
  | true ↦ λ g. absurd (let le = length-live-le now es in let lengths = ap length g in omega (arith, le, lengths))
  | false ↦ λ g. ap (λ l. e ∷ l) (filter_cut now n es (ap (drop 1) g))
]) h

pub live_cut : (now n : ℕ) (es fs : Items) → live now es ≡ es → fs ≡ take n es → live now fs ≡ fs
live_cut now n es fs h is = ap (live now) is ∙ filter_cut now n es h ∙ sym is

pub few_late : (bound : ℕ) (es fs : Items) → 1 ≤ bound → fs ≡ take (bound - 1) es → suc (length fs) ≤ bound
few_late bound es fs some is = let lengths = ap length is in omega (arith, lengths, length-take (bound - 1) es)

-- ---- an item that is not late is put
pub few_more : (now bound : ℕ) (es fs gs : Items) (key : List ℕ) (v : Item) → length es ≤ bound → fs ≡ first es key v → gs ≡ live now fs → length gs ≤ bound + 1
unfolding first
few_more now bound es fs gs key v few is cut =
    let lengths = ap length is in let le = length-without-le es key in let less = length-live-le now fs in let all = ap length cut in
    omega (arith, lengths, le, less, all, few)

pub order_put :
    (es gs : Items) (cap cap' now : ℕ) (i j : List (ℕ × List ℕ)) (late : Option (List ℕ × Item)) (moment bound : ℕ) (fs hs : Items)
    → IsInOrder es cap i late moment bound → gs ≡ live now fs → hs ≡ take bound gs → cap' ≡ cap → IsPaired hs j → IsInOrder hs cap' j None now bound
order_put es gs cap cap' now i j late moment bound fs hs o cut is same_cap paired = record {
  paired = paired;
  fresh = live_cut now bound gs hs (ap (live now) cut ∙ live_twice now fs ∙ sym cut) is;
  late_expired = tt;
  few = let lengths = ap length is in omega (arith, lengths, length-take bound gs);
  some = o.some;
  most = o.most;
  unbounded = same_cap ∙ o.unbounded;
}

pub put_live_view :
    (es fs gs hs : Items) (cap now : ℕ) (i : List (ℕ × List ℕ)) (late : Option (List ℕ × Item)) (moment bound : ℕ) (key : List ℕ) (v : Item)
    → IsInOrder es cap i late moment bound → moment ≤ now → is_expired v.due now ≡ false → fs ≡ first es key v → gs ≡ live now fs → hs ≡ take bound gs
    → kept_at hs now bound ≡ after_put (kept_at (with_late late es) moment bound) now key v
put_live_view es fs gs hs cap now i late moment bound key v o le stays is cut trimmed =
    ap (λ l. kept_at l now bound) (trimmed ∙ ap (take bound) (cut ∙ ap (live now) is ∙ live-first now es key v stays ∙ ap (λ l. first l key v) (sym (live_now es cap i late moment bound o now le))))

-- ---- what a look-up tells
pub seen_of : (es : Items) (cap : ℕ) (i : List (ℕ × List ℕ)) (late : Option (List ℕ × Item)) (moment bound now : ℕ) (key : List ℕ) (o : Option Item)
    → IsInOrder es cap i late moment bound → moment ≤ now → o ≡ item_at es key → kept now o ≡ item_at (live now (with_late late es)) key
seen_of es cap i late moment bound now key o h le is = ap (kept now) is ∙ sym (item_now es cap i late moment bound h now key le)
