-- The state of a class, and what each operation does to it.
use Rattle.std.specs.Prelude.{ℕ, ◌+◌, ◌-◌, ◌^◌, min, Bool, true, false, nat_le, take, if◌then◌else◌, List, Option, Some, None, refl}
use Rattle.std.specs.Coded.{Coded, code_by, coded×, coded_ℕ, coded_list, coded_option}
use Rattle.mc_model.specs.declared.reply.ShardReply.{ShardReply}
use Rattle.mc_model.specs.declared.reply.ShardReply.TheVariants as reply
use Rattle.mc_model.specs.contracts.item.Item as item
use Rattle.mc_item.specs.declared.limits.TheConstants.{LATEST_TIME}
use Rattle.mc_model.specs.Moments.{latest}
use Rattle.mc_model.specs.Items.{Items, no_items, item_at, count_of, live, first, without}
use Rattle.mc_model.specs.Rows.{KeyOp, Effect, Keep, Use, Put, Remove, Outcome, changes_after, outcome_of}

pub record Class : Type 0 where
  -- the number from which cas numbers are made
  pub class : ℕ
  -- how many items it holds at most
  pub bound : ℕ
  pub items : Items
  -- the greatest moment of the operations so far, none past the latest time
  pub moment : ℕ
  -- how many changes there were
  pub changes : ℕ
  -- how many stores there were, up to 2 ^ 64 - 1
  pub stored : ℕ
  -- the moment at which a flush is to be done, where one waits
  pub pending : Option ℕ

-- the code by which a proof tells classes apart
abbrev pub class_code : Coded Class
class_code = code_by (ℕ × (ℕ × (Items × (ℕ × (ℕ × (ℕ × Option ℕ))))))
    (coded× coded_ℕ (coded× coded_ℕ (coded× (coded_list (coded× (coded_list coded_ℕ) item.the_row.coded)) (coded× coded_ℕ (coded× coded_ℕ (coded× coded_ℕ (coded_option coded_ℕ)))))))
    (λ c. (c.class, (c.bound, (c.items, (c.moment, (c.changes, (c.stored, c.pending)))))))
    (λ p. record { class = p.0; bound = p.1.0; items = p.1.1.0; moment = p.1.1.1.0; changes = p.1.1.1.1.0; stored = p.1.1.1.1.1.0; pending = p.1.1.1.1.1.1 })
    (λ _. refl)

-- a class with no items, after so many changes, that holds at most so many items
abbrev pub new_class : ℕ → ℕ → ℕ → Class
new_class class changes bound = record { class = class; bound = bound; items = no_items; moment = 0; changes = changes; stored = 0; pending = None }

-- whether a flush waits, and its moment has come
abbrev pub is_flush_due : Option ℕ → ℕ → Bool
is_flush_due None moment = false
is_flush_due (Some flush_at) moment = nat_le flush_at moment

-- first of all in each operation: the moment, then all items go where a flush is due, then the items that are expired
abbrev pub settled : Class → ℕ → Class
settled s moment = let now = latest s.moment moment in record {
  class = s.class;
  bound = s.bound;
  items = live now (if is_flush_due s.pending now then no_items else s.items);
  moment = now;
  changes = s.changes;
  stored = s.stored;
  pending = if is_flush_due s.pending now then None else s.pending;
}

-- the number of stores, one more where it was one, which stands still at 2 ^ 64 - 1
abbrev pub stored_after : ℕ → Bool → ℕ
stored_after stored true = min (stored + 1) (2 ^ 64 - 1)
stored_after stored false = stored

-- the items after an effect on the item of a key, where those that are put are cut like this
abbrev pub after_effect : (Items → Items) → Items → List ℕ → Effect → Items
after_effect cut items key Keep = items
after_effect cut items key (Use item) = first items key item
after_effect cut items key (Put item) = cut (first items key item)
after_effect cut items key Remove = without items key

-- a settled class after an operation on a key: of more items than the bound the last goes
abbrev pub after_key : Class → List ℕ → Outcome → Class
after_key s key o = record {
  class = s.class;
  bound = s.bound;
  items = after_effect (take s.bound) s.items key o.effect;
  moment = s.moment;
  changes = changes_after s.changes o.effect;
  stored = stored_after s.stored o.is_store;
  pending = s.pending;
}

-- what an operation on a key does in a settled class
abbrev pub outcome_at : Class → List ℕ → KeyOp → Outcome
outcome_at s key op = outcome_of s.class s.moment s.changes op (item_at s.items key)

-- an operation on a key
abbrev pub key_step : Class → List ℕ → KeyOp → ℕ → Class × ShardReply
key_step s key op moment =
    let t = settled s moment in
    (after_key t key (outcome_at t key op), (outcome_at t key op).reply)

-- the moment at which a flush is done: the operation's own, or the latest time where it is past that, and the delay
abbrev pub flush_moment : ℕ → ℕ → ℕ
flush_moment moment delay = min moment LATEST_TIME + delay

-- a flush: it waits for its moment in the place of one that waits already, or is done at once
abbrev pub flush_step : Class → ℕ → ℕ → Class × ShardReply
flush_step s delay moment =
    let t = settled s moment in
    let flush_at = flush_moment moment delay in (
      record {
        class = t.class;
        bound = t.bound;
        items = if nat_le flush_at t.moment then no_items else t.items;
        moment = t.moment;
        changes = t.changes;
        stored = t.stored;
        pending = if nat_le flush_at t.moment then None else Some flush_at;
      },
      reply.Flushed,
    )

-- a count of the items, and of the stores
abbrev pub count_step : Class → ℕ → Class × ShardReply
count_step s moment = let t = settled s moment in (t, reply.Counts (count_of t.items) t.stored)

-- the items that are still there at the class's moment: an item that is put already expired stays until the next operation
abbrev pub standing : Class → Items
standing s = live s.moment s.items
