-- How many items there are after settling, and after an operation on a key.
use Rattle.std.proofs.Common.{◌≡◌, ℕ, suc, ◌+◌, ◌^◌, ◌≤◌, Bool, true, false, cond, eqb, ltb, not, List, [], ◌∷◌, length, take, Option, Some, None, IsSome, refl, sym, ap, arith}
use Rattle.std.proofs.lemmas.List.Sums.{length-filter, count_by-le-length}
use Rattle.std.proofs.lemmas.List.{length-take}
use Rattle.std.specs.List.{filter}
use Rattle.std.specs.Fmt.{decimal}
use Rattle.mc_item.specs.declared.limits.TheConstants.{LARGEST_VALUE, MOST_CHANGES}
use Rattle.mc_item.specs.Expiry.{due_at}
use Rattle.mc_item.specs.Numbers.{number_below}
use Rattle.mc_model.specs.declared.item.Item.{Item}
use Rattle.mc_model.specs.declared.reply.ShardReply.{ShardReply}
use Rattle.mc_model.specs.Moments.{latest}
use Rattle.mc_model.specs.Items.{Items, same_key, item_at, count_of, live, without, first}
use Rattle.mc_model.specs.Rows.{KeyOp, Store, Get, GetTouch, Change, Touch, Delete, Effect, Keep, Use, Put, Remove, Outcome, outcome_of, store_unless, refusal_of, stored_item, change_number}
use Rattle.mc_model.specs.Class.{Class, settled, is_flush_due, after_effect}

length-filter-le : {X : Type 0} (p : X → Bool) (xs : List X) → length (filter p xs) ≤ length xs
length-filter-le p xs = rw (length-filter p xs) (count_by-le-length p xs)

-- ---- settling

count-live-le : (moment : ℕ) (items : Items) → count_of (live moment items) ≤ count_of items
unfolding live
count-live-le moment items = length-filter-le _ items

pub count_unless : (due : Bool) (items : Items) → count_of (cond due [] items) ≤ count_of items
count_unless true items = omega arith
count_unless false items = omega arith

pub count-settled-le : (s : Class) (moment : ℕ) → count_of (settled s moment).items ≤ count_of s.items
count-settled-le s moment =
    let now = latest s.moment moment in
    let kept = count-live-le now (cond (is_flush_due s.pending now) [] s.items) in
    let unless = count_unless (is_flush_due s.pending now) s.items in
    omega (arith, kept, unless)

-- ---- an effect

-- only an item that is there is used
abbrev pub IsFitting : Option Item → Effect → Type 0
IsFitting before Keep = Unit {0}
IsFitting before (Use item) = IsSome before
IsFitting before (Put item) = Unit {0}
IsFitting before Remove = Unit {0}

count-without-less : (items : Items) (key : List ℕ) → IsSome (item_at items key) → suc (count_of (without items key)) ≤ count_of items
unfolding without
count-without-less [] key there = absurd cc
count-without-less (e ∷ items) key there = (elim (same_key key e.0) as (λ b. IsSome (cond b (Some e.1) (item_at items key)) → suc (count_of (cond (not b) (e ∷ without items key) (without items key))) ≤ suc (count_of items)) [
  | true ↦ λ h. let le = length-filter-le (λ (x : List ℕ × Item). not (same_key key x.0)) items in omega (arith, le)
  | false ↦ λ h. let less = count-without-less items key h in omega (arith, less)
]) there

count-take-le : (bound : ℕ) (items : Items) → count_of (take bound items) ≤ bound
count-take-le bound items = omega (arith, length-take bound items)

pub count-after_effect-le : (bound : ℕ) (items : Items) (key : List ℕ) (effect : Effect) → count_of items ≤ bound → IsFitting (item_at items key) effect → count_of (after_effect (take bound) items key effect) ≤ bound
unfolding first without
count-after_effect-le bound items key Keep few fits = few
count-after_effect-le bound items key (Use item) few fits = let less = count-without-less items key fits in omega (arith, less)
count-after_effect-le bound items key (Put item) few fits = count-take-le bound (first items key item)
count-after_effect-le bound items key Remove few fits = let le = length-filter-le (λ (x : List ℕ × Item). not (same_key key x.0)) items in omega (arith, le)

-- ---- the rows

either : (b : Bool) (before : Option Item) (x y : Outcome) → IsFitting before x.effect → IsFitting before y.effect → IsFitting before (cond b x y).effect
either true before x y h g = h
either false before x y h g = g

unless_fits : (refusal : Option ShardReply) (changes : ℕ) (before : Option Item) (item : Item) → IsFitting before (store_unless refusal changes item).effect
unless_fits (Some r) changes before item = tt
unless_fits None changes before item = either (eqb changes MOST_CHANGES) before _ _ tt tt

number_fits : (class changes : ℕ) (up : Bool) (by : ℕ) (item : Item) (before : Option Item) (number : Option ℕ) → IsFitting before (change_number class changes up by item number).effect
number_fits class changes up by item before None = tt
number_fits class changes up by item before (Some number) = either (eqb changes MOST_CHANGES) before _ _ tt tt

pub outcome_fits : (class moment changes : ℕ) (op : KeyOp) (before : Option Item) → IsFitting before (outcome_of class moment changes op before).effect
outcome_fits class moment changes (Store how flags exptime value) before =
    either (ltb LARGEST_VALUE (length value)) before _ _ tt (unless_fits (refusal_of how (length value) before) changes before _)
outcome_fits class moment changes Get None = tt
outcome_fits class moment changes Get (Some item) = refl
outcome_fits class moment changes (GetTouch exptime) None = tt
outcome_fits class moment changes (GetTouch exptime) (Some item) = refl
outcome_fits class moment changes (Change up by) None = tt
outcome_fits class moment changes (Change up by) (Some item) = number_fits class changes up by item (Some item) (number_below (2 ^ 64) item.value)
outcome_fits class moment changes (Touch exptime) None = tt
outcome_fits class moment changes (Touch exptime) (Some item) = refl
outcome_fits class moment changes Delete None = tt
outcome_fits class moment changes Delete (Some item) = tt
