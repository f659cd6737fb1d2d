-- A class as a kind of object.
use Rattle.std.specs.Prelude.{ℕ, ◌<◌, ◌≤◌, ◌^◌, nat_lt, nat_le, take, ◌==◌, if◌then◌else◌, List, Option, Some, None, Result, Ok, Err}
use Rattle.tm_seq.specs.Kind.{Kind}
use Rattle.tm_seq.specs.declared.kind.Next.TheVariants.{Done}
use Rattle.mc_item.specs.declared.limits.TheConstants.{CLASSES, LATEST_TIME, LARGEST_VALUE, MOST_CHANGES, MOST_ITEMS}
use Rattle.mc_item.specs.Numbers.{number_below}
use Rattle.mc_model.specs.declared.item.Item.{Item}
use Rattle.mc_model.specs.declared.message.How.{How}
use Rattle.mc_model.specs.declared.reply.ShardReply.{ShardReply}
use Rattle.mc_model.specs.declared.reply.ShardReply.TheVariants as reply
use Rattle.mc_model.specs.Rows.{Store, Get, GetTouch, Change, Touch, Delete, refusal_of}
use Rattle.mc_model.specs.Items.{Items, no_items, first, without}
use Rattle.mc_model.specs.Class.{Class, key_step, flush_step, count_step}
use Rattle.mc_model.specs.Showing.{is_no_memory}
use Rattle.mc_shard.specs.declared.op.ShardOp.{ShardOp}
use Rattle.mc_shard.specs.declared.op.ShardOp.TheVariants as op
use Rattle.mc_shard.specs.declared.op.NoTask.{NoTask}

-- what an operation does to a class
abbrev pub shard_step : Class → ShardOp → Class × ShardReply
shard_step s (op.Store how key flags exptime value moment) = key_step s key (Store how flags exptime value) moment
shard_step s (op.Get key moment) = key_step s key Get moment
shard_step s (op.GetTouch key exptime moment) = key_step s key (GetTouch exptime) moment
shard_step s (op.Change up key by moment) = key_step s key (Change up by) moment
shard_step s (op.Touch key exptime moment) = key_step s key (Touch exptime) moment
shard_step s (op.Delete key moment) = key_step s key Delete moment
shard_step s (op.Flush delay moment) = flush_step s delay moment
shard_step s (op.Count moment) = count_step s moment

-- a class as a kind, which has no tasks
abbrev pub shard_kind : Kind Class ShardOp ShardReply NoTask
shard_kind = record {
  step = shard_step;
  advance = λ s task event. (s, Done reply.NoMemory);
  left = λ task. 0;
  no_memory = reply.NoMemory;
  lacks = is_no_memory;
}

-- the bounds that a class keeps
pub record IsBounded (class bound moment changes : ℕ) : Type 0 where
  pub number : class < CLASSES
  pub some : 1 ≤ bound
  pub most : bound ≤ MOST_ITEMS
  pub time : moment ≤ LATEST_TIME
  pub count : changes ≤ MOST_CHANGES

-- a class, but that it has these items
abbrev pub with_items : Class → Items → Class
with_items s items = record {
  class = s.class;
  bound = s.bound;
  items = items;
  moment = s.moment;
  changes = s.changes;
  stored = s.stored;
  pending = s.pending;
}

-- a class, but that this item is put for a key
abbrev pub with_item : Class → List ℕ → Item → Class
with_item s key item = with_items s (take s.bound (first s.items key item))

-- a class, but that the item of a key is put again, changed, where there is one
abbrev pub with_change : (Item → Item) → Class → List ℕ → Option Item → Class
with_change change s key None = s
with_change change s key (Some item) = with_item s key (change item)

-- a class, but that the item of a key is used and changed, where there is one
abbrev pub with_use : (Item → Item) → Class → List ℕ → Option Item → Class
with_use change s key None = s
with_use change s key (Some item) = with_items s (first s.items key (change item))

-- a class, but that a key has no item
abbrev pub without_item : Class → List ℕ → Class
without_item s key = with_items s (without s.items key)

-- a class with a flush that waits for a moment, or that is done where it has come
abbrev pub flushed_at : Class → ℕ → Class
flushed_at s flush_at = record {
  class = s.class;
  bound = s.bound;
  items = if nat_le flush_at s.moment then no_items else s.items;
  moment = s.moment;
  changes = s.changes;
  stored = s.stored;
  pending = if nat_le flush_at s.moment then None else Some flush_at;
}

-- a reply for want of further changes, unless there is one already
abbrev pub or_out_of_cas : Option ShardReply → ℕ → Option ShardReply
or_out_of_cas (Some refusal) changes = Some refusal
or_out_of_cas None changes = if changes == MOST_CHANGES then Some reply.OutOfCas else None

-- why a store is refused, where the key has this
abbrev pub store_refusal : How → ℕ → ℕ → Option Item → Option ShardReply
store_refusal how size changes before =
    if nat_lt LARGEST_VALUE size then Some reply.TooLarge else or_out_of_cas (refusal_of how size before) changes

-- a number that a change reads, unless no change is left
abbrev pub read_number : ℕ → Option ℕ → Result ℕ ShardReply
read_number changes None = Err reply.NonNumeric
read_number changes (Some number) = if changes == MOST_CHANGES then Err reply.OutOfCas else Ok number

-- the number that a change reads, where the key has this, or why it is refused
abbrev pub number_of : ℕ → Option Item → Result ℕ ShardReply
number_of changes None = Err reply.NotFound
number_of changes (Some item) = read_number changes (number_below (2 ^ 64) item.value)
