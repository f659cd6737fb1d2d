-- What an operation on a key makes of a class.
use Rattle.std.proofs.Common.{◌≡◌, ℕ, ◌+◌, ◌^◌, ℤ, Bool, true, false, cond, ◌==◌, nat_lt, List, length, take, Option, Some, None, Result, Ok, Err, IsSome, is_some, option_copied, option_map, Bor, refl, sym, ap, ◌∙◌, arith}
use Rattle.std.specs.Fmt.{decimal}
use Rattle.mc_item.specs.declared.limits.TheConstants.{LARGEST_VALUE, MOST_CHANGES}
use Rattle.mc_item.specs.Expiry.{due_at}
use Rattle.mc_item.specs.Numbers.{number_below}
use Rattle.mc_model.specs.declared.item.Item.{Item}
use Rattle.mc_model.specs.declared.message.How.{How}
use Rattle.mc_model.specs.declared.reply.ShardReply.{ShardReply}
use Rattle.mc_model.specs.declared.reply.ShardReply.TheVariants as reply
use Rattle.mc_model.specs.Moments.{latest}
use Rattle.mc_model.specs.Items.{item_at, count_of, first}
use Rattle.mc_model.specs.Rows.{KeyOp, Store, Get, GetTouch, Change, Touch, Delete, Effect, Put, Outcome, refused, with_effect, with_due, with_value, shows, cas_of, refusal_of, stored_item, store_unless, get_outcome, get_touch_outcome, changed, change_number, change_outcome, touch_outcome, delete_outcome}
use Rattle.mc_model.specs.Class.{Class, settled, standing, stored_after, after_key, outcome_at, key_step, count_step}
use Rattle.mc_shard.specs.Kept.{same}
use Rattle.mc_shard.specs.Shard.{with_change, with_use, with_items, without_item, or_out_of_cas, store_refusal, read_number, number_of}
use Rattle.mc_shard.proofs.CacheFacts.{without-none}
use Rattle.mc_shard.proofs.Steps.{live_twice}

-- ---- what leaves the class as it was

leaves : (t : Class) (key : List ℕ) (r : ShardReply) → after_key t key (refused r) ≡ t
leaves t key r = refl

-- an operation that leaves the class as it was, once it has moved on
key_leaves :
    (s : Class) (moment : ℕ) (key : List ℕ) (op : KeyOp) (r : ShardReply)
    → outcome_at (settled s moment) key op ≡ refused r
    → ◌≡◌ {A = Class × ShardReply} (settled s moment, r) (key_step s key op moment)
key_leaves s moment key op r e =
    let t = settled s moment in
    sym (ap (λ (o : Outcome). (after_key t key o, o.reply)) e ∙ ap (λ (x : Class). (x, r)) (leaves t key r))

-- ---- get

-- nothing is shown
pub missing_of : (o : Option Item) → None ≡ option_map shows o → o ≡ None
missing_of None h = refl
missing_of (Some item) h = absurd cc

-- an item is shown, so that it is there
pub there_of : (o : Option Item) (r : ShardReply) → Some r ≡ option_map shows o → IsSome o
there_of None r h = absurd cc
there_of (Some item) r h = refl

pub get_missing : (s : Class) (moment : ℕ) (key : List ℕ) → item_at (settled s moment).items key ≡ None → ◌≡◌ {A = Class × ShardReply} (settled s moment, reply.Missing) (key_step s key Get moment)
get_missing s moment key e = key_leaves s moment key Get reply.Missing (ap get_outcome e)

get_by_item : (t : Class) (key : List ℕ) (before : Option Item) (r : ShardReply) → Some r ≡ option_map shows before
    → ◌≡◌ {A = Class × ShardReply} (with_use same t key before, r) (after_key t key (get_outcome before), (get_outcome before).reply)
get_by_item t key None r e = absurd cc
get_by_item t key (Some item) r e = let is : r ≡ shows item = cc in ap (λ x. (with_use same t key (Some item), x)) is

pub get_done : (s : Class) (moment : ℕ) (key : List ℕ) (r : ShardReply) → Some r ≡ option_map shows (item_at (settled s moment).items key)
    → ◌≡◌ {A = Class × ShardReply} (with_use same (settled s moment) key (item_at (settled s moment).items key), r) (key_step s key Get moment)
get_done s moment key r e = get_by_item (settled s moment) key (item_at (settled s moment).items key) r e

pub get_touch_missing : (s : Class) (moment : ℕ) (key : List ℕ) (exptime : ℤ) → item_at (settled s moment).items key ≡ None
    → ◌≡◌ {A = Class × ShardReply} (settled s moment, reply.Missing) (key_step s key (GetTouch exptime) moment)
get_touch_missing s moment key exptime e = key_leaves s moment key (GetTouch exptime) reply.Missing (ap (get_touch_outcome (settled s moment).moment exptime) e)

get_touch_by_item : (t : Class) (key : List ℕ) (exptime : ℤ) (before : Option Item) (r : ShardReply) → Some r ≡ option_map shows before
    → ◌≡◌ {A = Class × ShardReply} (with_use (with_due (due_at exptime t.moment)) t key before, r) (after_key t key (get_touch_outcome t.moment exptime before), (get_touch_outcome t.moment exptime before).reply)
get_touch_by_item t key exptime None r e = absurd cc
get_touch_by_item t key exptime (Some item) r e = let is : r ≡ shows item = cc in ap (λ x. (with_use (with_due (due_at exptime t.moment)) t key (Some item), x)) is

pub get_touch_done : (s : Class) (moment : ℕ) (key : List ℕ) (exptime : ℤ) (r : ShardReply) → Some r ≡ option_map shows (item_at (settled s moment).items key)
    → ◌≡◌ {A = Class × ShardReply}
    (with_use (with_due (due_at exptime (settled s moment).moment)) (settled s moment) key (item_at (settled s moment).items key), r)
    (key_step s key (GetTouch exptime) moment)
get_touch_done s moment key exptime r e = get_touch_by_item (settled s moment) key exptime (item_at (settled s moment).items key) r e

-- ---- store

-- what a store leaves
abbrev put_outcome : Item → Outcome
put_outcome item = record { reply = reply.Stored; effect = Put item; is_store = true }

out_or : (b : Bool) (item : Item) (r : ShardReply)
    → ◌≡◌ {A = Option ShardReply} (cond b (Some reply.OutOfCas) None) (Some r) → cond b (refused reply.OutOfCas) (put_outcome item) ≡ refused r
out_or true item r e = ap refused cc
out_or false item r e = absurd cc

unless_refused : (o : Option ShardReply) (changes : ℕ) (item : Item) (r : ShardReply) → or_out_of_cas o changes ≡ Some r → store_unless o changes item ≡ refused r
unless_refused (Some x) changes item r e = ap refused cc
unless_refused None changes item r e = out_or (changes == MOST_CHANGES) item r e

large_or : (b : Bool) (o : Option ShardReply) (changes : ℕ) (item : Item) (r : ShardReply)
    → cond b (Some reply.TooLarge) (or_out_of_cas o changes) ≡ Some r → cond b (refused reply.TooLarge) (store_unless o changes item) ≡ refused r
large_or true o changes item r e = ap refused cc
large_or false o changes item r e = unless_refused o changes item r e

-- a store that is refused
pub store_refused :
    (s : Class) (moment : ℕ) (key : List ℕ) (how : How) (flags : ℕ) (exptime : ℤ) (value : List ℕ) (r : ShardReply)
    → store_refusal how (length value) s.changes (item_at (settled s moment).items key) ≡ Some r
    → ◌≡◌ {A = Class × ShardReply} (settled s moment, r) (key_step s key (Store how flags exptime value) moment)
store_refused s moment key how flags exptime value r e =
    key_leaves s moment key (Store how flags exptime value) r (
    large_or (nat_lt LARGEST_VALUE (length value)) (refusal_of how (length value) (item_at (settled s moment).items key)) s.changes _ r e)

out_none : (b : Bool) (item : Item) → ◌≡◌ {A = Option ShardReply} (cond b (Some reply.OutOfCas) None) None → cond b (refused reply.OutOfCas) (put_outcome item) ≡ put_outcome item
out_none true item e = absurd cc
out_none false item e = refl

unless_done : (o : Option ShardReply) (changes : ℕ) (item : Item) → or_out_of_cas o changes ≡ None → store_unless o changes item ≡ put_outcome item
unless_done (Some x) changes item e = absurd cc
unless_done None changes item e = out_none (changes == MOST_CHANGES) item e

large_none : (b : Bool) (o : Option ShardReply) (changes : ℕ) (item : Item)
    → cond b (Some reply.TooLarge) (or_out_of_cas o changes) ≡ None → cond b (refused reply.TooLarge) (store_unless o changes item) ≡ put_outcome item
large_none true o changes item e = absurd cc
large_none false o changes item e = unless_done o changes item e

-- a class after a store of an item
abbrev pub after_store : Class → List ℕ → Item → Class
after_store t key item = record {
  class = t.class;
  bound = t.bound;
  items = take t.bound (first t.items key item);
  moment = t.moment;
  changes = t.changes + 1;
  stored = stored_after t.stored true;
  pending = t.pending;
}

-- a store that is not refused
pub store_done :
    (s : Class) (moment : ℕ) (key : List ℕ) (how : How) (flags : ℕ) (exptime : ℤ) (value : List ℕ)
    → store_refusal how (length value) s.changes (item_at (settled s moment).items key) ≡ None
    → ◌≡◌ {A = Class × ShardReply}
    (after_store (settled s moment) key (stored_item how flags (due_at exptime (settled s moment).moment) value (cas_of s.class (s.changes + 1)) (item_at (settled s moment).items key)), reply.Stored)
    (key_step s key (Store how flags exptime value) moment)
store_done s moment key how flags exptime value e =
    let t = settled s moment in
    sym (ap (λ (o : Outcome). (after_key t key o, o.reply)) (
    large_none (nat_lt LARGEST_VALUE (length value)) (refusal_of how (length value) (item_at t.items key)) s.changes
    (stored_item how flags (due_at exptime t.moment) value (cas_of s.class (s.changes + 1)) (item_at t.items key)) e))

-- ---- change

-- what a change of a number leaves
abbrev put_number : ℕ → ℕ → Bool → ℕ → ℕ → Item → Outcome
put_number class changes up by number item =
    with_effect (reply.Number (changed up number by)) (Put (with_value (decimal (changed up number by)) (cas_of class (changes + 1)) item))

spent_or : (b : Bool) (class changes : ℕ) (up : Bool) (by number : ℕ) (item : Item) (r : ShardReply)
    → ◌≡◌ {A = Result ℕ ShardReply} (cond b (Err reply.OutOfCas) (Ok number)) (Err r)
    → cond b (refused reply.OutOfCas) (put_number class changes up by number item) ≡ refused r
spent_or true class changes up by number item r e = ap refused cc
spent_or false class changes up by number item r e = absurd cc

number_refused : (class changes : ℕ) (up : Bool) (by : ℕ) (item : Item) (m : Option ℕ) (r : ShardReply)
    → read_number changes m ≡ Err r → change_number class changes up by item m ≡ refused r
number_refused class changes up by item None r e = ap refused cc
number_refused class changes up by item (Some number) r e = spent_or (changes == MOST_CHANGES) class changes up by number item r e

refused_outcome : (class changes : ℕ) (up : Bool) (by : ℕ) (before : Option Item) (r : ShardReply)
    → number_of changes before ≡ Err r → change_outcome class changes up by before ≡ refused r
refused_outcome class changes up by None r e = ap refused cc
refused_outcome class changes up by (Some item) r e = number_refused class changes up by item (number_below (2 ^ 64) item.value) r e

-- a change that is refused
pub change_refused :
    (s : Class) (moment : ℕ) (key : List ℕ) (up : Bool) (by : ℕ) (r : ShardReply)
    → number_of s.changes (item_at (settled s moment).items key) ≡ Err r
    → ◌≡◌ {A = Class × ShardReply} (settled s moment, r) (key_step s key (Change up by) moment)
change_refused s moment key up by r e =
    key_leaves s moment key (Change up by) r (refused_outcome s.class s.changes up by (item_at (settled s moment).items key) r e)

spent_none : (b : Bool) (class changes : ℕ) (up : Bool) (by number n : ℕ) (item : Item)
    → ◌≡◌ {A = Result ℕ ShardReply} (cond b (Err reply.OutOfCas) (Ok number)) (Ok n)
    → cond b (refused reply.OutOfCas) (put_number class changes up by number item) ≡ put_number class changes up by n item
spent_none true class changes up by number n item e = absurd cc
spent_none false class changes up by number n item e = ap (λ k. put_number class changes up by k item) cc

number_done : (class changes : ℕ) (up : Bool) (by n : ℕ) (item : Item) (m : Option ℕ)
    → read_number changes m ≡ Ok n → change_number class changes up by item m ≡ put_number class changes up by n item
number_done class changes up by n item None e = absurd cc
number_done class changes up by n item (Some number) e = spent_none (changes == MOST_CHANGES) class changes up by number n item e

-- a class after a change of its counts
abbrev pub one_change : Class → Class
one_change s = record { class = s.class; bound = s.bound; items = s.items; moment = s.moment; changes = s.changes + 1; stored = s.stored; pending = s.pending }

done_by_item :
    (t : Class) (key : List ℕ) (up : Bool) (by n : ℕ) (before : Option Item) → number_of t.changes before ≡ Ok n
    → ◌≡◌ {A = Class × ShardReply}
    (one_change (with_change (with_value (decimal (changed up n by)) (cas_of t.class (t.changes + 1))) t key before), reply.Number (changed up n by))
    (after_key t key (change_outcome t.class t.changes up by before), (change_outcome t.class t.changes up by before).reply)
done_by_item t key up by n None e = absurd cc
done_by_item t key up by n (Some item) e =
    sym (ap (λ (o : Outcome). (after_key t key o, o.reply)) (number_done t.class t.changes up by n item (number_below (2 ^ 64) item.value) e))

-- a change that is not refused
pub change_done :
    (s : Class) (moment : ℕ) (key : List ℕ) (up : Bool) (by n : ℕ)
    → number_of s.changes (item_at (settled s moment).items key) ≡ Ok n
    → ◌≡◌ {A = Class × ShardReply}
    (one_change (with_change (with_value (decimal (changed up n by)) (cas_of s.class (s.changes + 1))) (settled s moment) key (item_at (settled s moment).items key)), reply.Number (changed up n by))
    (key_step s key (Change up by) moment)
change_done s moment key up by n e = done_by_item (settled s moment) key up by n (item_at (settled s moment).items key) e

-- ---- touch and delete

-- what was looked for is not there
pub missing : (r : Option (Bor Item)) (o : Option Item) → option_copied r ≡ o → is_some r ≡ false → o ≡ None
missing None o is e = sym is
missing (Some item) o is e = absurd cc

-- what was looked for is there
pub there : (r : Option (Bor Item)) (o : Option Item) → option_copied r ≡ o → is_some r ≡ true → IsSome o
there None o is e = absurd cc
there (Some item) o is e = ap (λ o. is_some o) (sym is)

pub touch_missing :
    (s : Class) (moment : ℕ) (key : List ℕ) (exptime : ℤ) → item_at (settled s moment).items key ≡ None
    → ◌≡◌ {A = Class × ShardReply} (settled s moment, reply.NotFound) (key_step s key (Touch exptime) moment)
touch_missing s moment key exptime e =
    key_leaves s moment key (Touch exptime) reply.NotFound (
    ap (touch_outcome (settled s moment).moment exptime) e)

pub delete_missing :
    (s : Class) (moment : ℕ) (key : List ℕ) → item_at (settled s moment).items key ≡ None
    → ◌≡◌ {A = Class × ShardReply} (settled s moment, reply.NotFound) (key_step s key Delete moment)
delete_missing s moment key e =
    key_leaves s moment key Delete reply.NotFound (ap delete_outcome e)

none_of_test : (o : Option Item) → is_some o ≡ false → o ≡ None
none_of_test None e = refl
none_of_test (Some item) e = absurd cc

-- a key that has no item has none after
pub delete_none :
    (s : Class) (moment : ℕ) (key : List ℕ) → is_some (item_at (settled s moment).items key) ≡ false
    → ◌≡◌ {A = Class × ShardReply} (without_item (settled s moment) key, reply.NotFound) (key_step s key Delete moment)
delete_none s moment key e =
    let none = none_of_test (item_at (settled s moment).items key) e in
    ap (λ items. (with_items (settled s moment) items, reply.NotFound)) (without-none (settled s moment).items key none) ∙ delete_missing s moment key none

touch_by_item :
    (t : Class) (key : List ℕ) (exptime : ℤ) (before : Option Item) → IsSome before
    → ◌≡◌ {A = Class × ShardReply}
    (with_use (with_due (due_at exptime t.moment)) t key before, reply.Touched)
    (after_key t key (touch_outcome t.moment exptime before), (touch_outcome t.moment exptime before).reply)
touch_by_item t key exptime None e = absurd cc
touch_by_item t key exptime (Some item) e = refl

pub touch_done :
    (s : Class) (moment : ℕ) (key : List ℕ) (exptime : ℤ) → IsSome (item_at (settled s moment).items key)
    → ◌≡◌ {A = Class × ShardReply}
    (with_use (with_due (due_at exptime (settled s moment).moment)) (settled s moment) key (item_at (settled s moment).items key), reply.Touched)
    (key_step s key (Touch exptime) moment)
touch_done s moment key exptime e = touch_by_item (settled s moment) key exptime (item_at (settled s moment).items key) e

delete_by_item :
    (t : Class) (key : List ℕ) (before : Option Item) → IsSome before
    → ◌≡◌ {A = Class × ShardReply} (without_item t key, reply.Deleted) (after_key t key (delete_outcome before), (delete_outcome before).reply)
delete_by_item t key None e = absurd cc
delete_by_item t key (Some item) e = refl

pub delete_done :
    (s : Class) (moment : ℕ) (key : List ℕ) → IsSome (item_at (settled s moment).items key)
    → ◌≡◌ {A = Class × ShardReply} (without_item (settled s moment) key, reply.Deleted) (key_step s key Delete moment)
delete_done s moment key e = delete_by_item (settled s moment) key (item_at (settled s moment).items key) e

-- ---- count

-- a class that has moved on has no item that is expired
pub standing_settled : (s : Class) (moment : ℕ) → standing (settled s moment) ≡ (settled s moment).items
standing_settled s moment = let now = latest s.moment moment in live_twice now _

pub count_done :
    (s : Class) (moment : ℕ)
    → ◌≡◌ {A = Class × ShardReply} (settled s moment, reply.Counts (count_of (standing (settled s moment))) s.stored) (count_step s moment)
count_done s moment = ap (λ items. (settled s moment, reply.Counts (count_of items) s.stored)) (standing_settled s moment)
