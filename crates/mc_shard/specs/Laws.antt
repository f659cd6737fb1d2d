-- A class is a lawful kind.
use Rattle.std.specs.Prelude.{◌≡◌, ℕ, ◌^◌, ◌↔◌, Bool, true, false, cond, IsTrue, List, length, nat_lt, ◌==◌, Option, Some, None, refl}
use Rattle.std.proofs.Common.{ap}
use Rattle.tm_seq.specs.Kind.{KindLaws}
use Rattle.mc_item.specs.declared.limits.TheConstants.{LARGEST_VALUE, MOST_CHANGES}
use Rattle.mc_item.specs.Numbers.{number_below}
use Rattle.mc_model.specs.declared.item.Item.{Item}
use Rattle.mc_model.specs.declared.message.How.{How}
use Rattle.mc_model.specs.declared.message.How.TheVariants.{Set, Add, Replace, Append, Prepend, Cas}
use Rattle.mc_model.specs.declared.reply.ShardReply.{ShardReply}
use Rattle.mc_model.specs.declared.reply.ShardReply.TheVariants as reply
use Rattle.mc_model.specs.Items.{item_at}
use Rattle.mc_model.specs.Rows.{Outcome, KeyOp, Store, Get, GetTouch, Change, Touch, Delete, refusal_of, store_unless, change_number, outcome_of}
use Rattle.mc_model.specs.Class.{Class, settled, key_step}
use Rattle.mc_model.specs.Showing.{is_no_memory}
use Rattle.mc_shard.specs.declared.op.ShardOp.{ShardOp}
use Rattle.mc_shard.specs.declared.op.ShardOp.TheVariants as op
use Rattle.mc_shard.specs.Shard.{shard_step, shard_kind}

lacks_is : (r : ShardReply) → IsTrue (is_no_memory r) ↔ (r ≡ reply.NoMemory)
lacks_is reply.Stored = (λ h. cc, λ e. cc)
lacks_is reply.NotStored = (λ h. cc, λ e. cc)
lacks_is reply.Exists = (λ h. cc, λ e. cc)
lacks_is reply.NotFound = (λ h. cc, λ e. cc)
lacks_is reply.Deleted = (λ h. cc, λ e. cc)
lacks_is reply.Touched = (λ h. cc, λ e. cc)
lacks_is reply.Flushed = (λ h. cc, λ e. cc)
lacks_is (reply.Item flags cas value) = (λ h. cc, λ e. cc)
lacks_is reply.Missing = (λ h. cc, λ e. cc)
lacks_is (reply.Number n) = (λ h. cc, λ e. cc)
lacks_is reply.NonNumeric = (λ h. cc, λ e. cc)
lacks_is reply.TooLarge = (λ h. cc, λ e. cc)
lacks_is reply.OutOfCas = (λ h. cc, λ e. cc)
lacks_is (reply.Counts held stored) = (λ h. cc, λ e. cc)
lacks_is reply.NoMemory = (λ h. refl, λ e. refl)

-- ---- no operation asks for memory in the definition

-- no refusal is for want of memory
abbrev IsOther : Option ShardReply → Type 0
IsOther None = Unit {0}
IsOther (Some r) = is_no_memory r ≡ false

when_large : (b : Bool) → IsOther (cond b (Some reply.TooLarge) None)
when_large true = refl
when_large false = tt

when_other : (b : Bool) → IsOther (cond b None (Some reply.Exists))
when_other true = tt
when_other false = refl

refusal_other : (how : How) (size : ℕ) (before : Option Item) → IsOther (refusal_of how size before)
refusal_other Set size before = tt
refusal_other Add size (Some item) = refl
refusal_other Add size None = tt
refusal_other Replace size None = refl
refusal_other Replace size (Some item) = tt
refusal_other Append size None = refl
refusal_other Append size (Some item) = when_large _
refusal_other Prepend size None = refl
refusal_other Prepend size (Some item) = when_large _
refusal_other (Cas unique) size None = refl
refusal_other (Cas unique) size (Some item) = when_other _

-- whichever of two is taken
either : (b : Bool) (x y : Outcome) → is_no_memory x.reply ≡ false → is_no_memory y.reply ≡ false → is_no_memory (cond b x y).reply ≡ false
either true x y h g = h
either false x y h g = g

unless_other : (o : Option ShardReply) (changes : ℕ) (item : Item) → IsOther o → is_no_memory (store_unless o changes item).reply ≡ false
unless_other (Some r) changes item h = h
unless_other None changes item h = either (changes == MOST_CHANGES) _ _ refl refl

number_other : (class changes : ℕ) (up : Bool) (by : ℕ) (item : Item) (number : Option ℕ) → is_no_memory (change_number class changes up by item number).reply ≡ false
number_other class changes up by item None = refl
number_other class changes up by item (Some number) = either (changes == MOST_CHANGES) _ _ refl refl

outcome_other : (class moment changes : ℕ) (op : KeyOp) (before : Option Item) → is_no_memory (outcome_of class moment changes op before).reply ≡ false
outcome_other class moment changes (Store how flags exptime value) before =
    either (nat_lt LARGEST_VALUE (length value)) _ _ refl (unless_other _ changes _ (refusal_other how (length value) before))
outcome_other class moment changes Get None = refl
outcome_other class moment changes Get (Some item) = refl
outcome_other class moment changes (GetTouch exptime) None = refl
outcome_other class moment changes (GetTouch exptime) (Some item) = refl
outcome_other class moment changes (Change up by) None = refl
outcome_other class moment changes (Change up by) (Some item) = number_other class changes up by item (number_below (2 ^ 64) item.value)
outcome_other class moment changes (Touch exptime) None = refl
outcome_other class moment changes (Touch exptime) (Some item) = refl
outcome_other class moment changes Delete None = refl
outcome_other class moment changes Delete (Some item) = refl

key_other : (s : Class) (moment : ℕ) (key : List ℕ) (o : KeyOp) → is_no_memory (key_step s key o moment).1 ≡ false
key_other s moment key o = let t = settled s moment in outcome_other t.class t.moment t.changes o (item_at t.items key)

step_other : (s : Class) (o : ShardOp) → is_no_memory (shard_step s o).1 ≡ false
step_other s (op.Store how key flags exptime value moment) = key_other s moment key (Store how flags exptime value)
step_other s (op.Get key moment) = key_other s moment key Get
step_other s (op.GetTouch key exptime moment) = key_other s moment key (GetTouch exptime)
step_other s (op.Change up key by moment) = key_other s moment key (Change up by)
step_other s (op.Touch key exptime moment) = key_other s moment key (Touch exptime)
step_other s (op.Delete key moment) = key_other s moment key Delete
step_other s (op.Flush delay moment) = refl
step_other s (op.Count moment) = refl

pub shard_laws : KindLaws shard_kind
shard_laws = record {
  lacks_is = lacks_is;
  step_kept = λ s o e. absurd (let h = step_other s o in let g = ap is_no_memory e in cc);
  advance_kept = λ s task event e. refl;
  falls = λ s task event. tt;
}
