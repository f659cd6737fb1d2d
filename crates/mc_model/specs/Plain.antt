-- The plain store, one list of the items of all keys, and its runs over commands.
use Rattle.std.specs.Prelude.{◌≡◌, ℕ, zero, suc, ◌≤◌, ◌⊎◌, not, nat_le, ◌==◌, if◌then◌else◌, List, [], ◌∷◌, map, Option, Some, None}
use Rattle.mc_item.specs.declared.limits.TheConstants.{CLASSES}
use Rattle.mc_item.specs.Classes.{class_of}
use Rattle.mc_model.specs.declared.message.Command.{Command}
use Rattle.mc_model.specs.declared.message.Command.TheVariants as command
use Rattle.mc_model.specs.declared.reply.ShardReply.{ShardReply}
use Rattle.mc_model.specs.declared.reply.ShardReply.TheVariants.{Flushed, Counts, NoMemory}
use Rattle.mc_model.specs.Moments.{latest}
use Rattle.mc_model.specs.Items.{Items, no_items, item_at, count_of, live, of_classes, first_of}
use Rattle.mc_model.specs.Rows.{KeyOp, Store, Get, GetTouch, Change, Touch, Delete, Outcome, changes_after, outcome_of}
use Rattle.mc_model.specs.Class.{is_flush_due, stored_after, after_effect, flush_moment}

-- the items of all keys, and for each class its number of changes and the flush that waits
pub record Plain : Type 0 where
  -- how many items of one class there are at most
  pub bound : ℕ
  pub items : Items
  pub moment : ℕ
  pub stored : ℕ
  pub changes : ℕ → ℕ
  pub pending : ℕ → Option ℕ

-- nothing stored yet, where a class has at most so many items
abbrev pub new_store : ℕ → Plain
new_store bound = record { bound = bound; items = no_items; moment = 0; stored = 0; changes = λ class. 0; pending = λ class. None }

-- a function, but that one class has this value
abbrev pub update : {A : Type 0} → (ℕ → A) → ℕ → A → ℕ → A
update f class value k = if k == class then value else f k

-- first the moment, then the items of each class whose flush is due go, then the items that are expired
abbrev pub plain_settled : Plain → ℕ → Plain
plain_settled p moment = let now = latest p.moment moment in record {
  bound = p.bound;
  items = live now (of_classes (λ class. not (is_flush_due (p.pending class) now)) p.items);
  moment = now;
  stored = p.stored;
  changes = p.changes;
  pending = λ class. if is_flush_due (p.pending class) now then None else p.pending class;
}

-- a settled store after an operation on a key: where the key's class has more items than the bound, the last of that class goes
abbrev pub plain_after_key : Plain → List ℕ → Outcome → Plain
plain_after_key p key o = record {
  bound = p.bound;
  items = after_effect (first_of (λ class. class == class_of key) p.bound) p.items key o.effect;
  moment = p.moment;
  stored = stored_after p.stored o.is_store;
  changes = update p.changes (class_of key) (changes_after (p.changes (class_of key)) o.effect);
  pending = p.pending;
}

-- what an operation on a key does in a settled store, by the rows of a class
abbrev pub plain_outcome_at : Plain → List ℕ → KeyOp → Outcome
plain_outcome_at p key op = outcome_of (class_of key) p.moment (p.changes (class_of key)) op (item_at p.items key)

-- an operation on a key
abbrev pub plain_key_step : Plain → List ℕ → KeyOp → ℕ → Plain × ShardReply
plain_key_step p key op moment =
    let t = plain_settled p moment in
    (plain_after_key t key (plain_outcome_at t key op), (plain_outcome_at t key op).reply)

-- a flush of one class
abbrev pub plain_flushed : ℕ → ℕ → ℕ → Plain → Plain
plain_flushed class delay moment p =
    let t = plain_settled p moment in
    let flush_at = flush_moment moment delay in record {
      bound = t.bound;
      items = if nat_le flush_at t.moment then of_classes (λ k. not (k == class)) t.items else t.items;
      moment = t.moment;
      stored = t.stored;
      changes = t.changes;
      pending = update t.pending class (if nat_le flush_at t.moment then None else Some flush_at);
    }

-- a flush of each class below this one, one after another
abbrev pub plain_flushed_below : ℕ → ℕ → ℕ → Plain → Plain
plain_flushed_below zero delay moment p = p
plain_flushed_below (suc class) delay moment p = plain_flushed class delay moment (plain_flushed_below class delay moment p)

-- ---- what is asked of keys

-- a key, and what is asked of it
abbrev pub Part : Type 0
Part = List ℕ × KeyOp

-- the operations on keys that a command asks for, in order
abbrev pub parts_of : Command → List Part
parts_of (command.Store how key flags exptime value quiet) = (key, Store how flags exptime value) ∷ []
parts_of (command.Get keys with_cas) = map (λ key. (key, Get)) keys
parts_of (command.GetTouch exptime keys with_cas) = map (λ key. (key, GetTouch exptime)) keys
parts_of (command.Delete key quiet) = (key, Delete) ∷ []
parts_of (command.Change up key by quiet) = (key, Change up by) ∷ []
parts_of (command.Touch key exptime quiet) = (key, Touch exptime) ∷ []
parts_of (command.FlushAll delay quiet) = []
parts_of command.Stats = []
parts_of command.Version = []
parts_of (command.Verbosity quiet) = []
parts_of command.Quit = []

-- one part: as the rows say, or for want of memory with nothing changed
abbrev pub IsPart : Plain → Part → ℕ → Plain → ShardReply → Type 0
IsPart p part moment q reply = ((q, reply) ≡ plain_key_step p part.0 part.1 moment) ⊎ ((q ≡ p) × (reply ≡ NoMemory))

-- the parts one after another
abbrev pub AreParts : Plain → List Part → ℕ → Plain → List ShardReply → Type 0
AreParts p [] moment q replies = (q ≡ p) × (replies ≡ [])
AreParts p (part ∷ parts) moment q replies =
    (r : Plain) × (reply : ShardReply) × (others : List ShardReply)
    × (replies ≡ reply ∷ others) × IsPart p part moment r reply × AreParts r parts moment q others

-- ---- commands

-- a flush of all 64 classes; or memory was wanting, and so many of them are flushed, from the first on
abbrev pub IsFlush : Plain → ℕ → ℕ → Plain → List ShardReply → Type 0
IsFlush p delay moment q replies =
    ((q ≡ plain_flushed_below CLASSES delay moment p) × (replies ≡ Flushed ∷ []))
    ⊎ ((classes : ℕ) × (classes ≤ CLASSES) × (q ≡ plain_flushed_below classes delay moment p) × (replies ≡ NoMemory ∷ []))

-- a count of all items and stores; or memory was wanting, and nothing has changed
abbrev pub IsCount : Plain → ℕ → Plain → List ShardReply → Type 0
IsCount p moment q replies =
    ((q ≡ plain_settled p moment) × (replies ≡ Counts (count_of (plain_settled p moment).items) p.stored ∷ []))
    ⊎ ((q ≡ p) × (replies ≡ NoMemory ∷ []))

-- From p, a command at a moment has these replies and leaves q.
abbrev pub Replies : Plain → Command → ℕ → Plain → List ShardReply → Type 0
Replies p (command.FlushAll delay quiet) moment q replies = IsFlush p delay moment q replies
Replies p command.Stats moment q replies = IsCount p moment q replies
Replies p command moment q replies = AreParts p (parts_of command) moment q replies

-- From p, commands at these moments, one for each, have these replies, one list for each, and leave q.
abbrev pub Runs : Plain → List Command → List ℕ → List (List ShardReply) → Plain → Type 0
Runs p [] moments replies q = (moments ≡ []) × (replies ≡ []) × (q ≡ p)
Runs p (command ∷ commands) moments replies q =
    (r : Plain) × (moment : ℕ) × (moments_left : List ℕ) × (first : List ShardReply) × (others : List (List ShardReply))
    × (moments ≡ moment ∷ moments_left) × (replies ≡ first ∷ others)
    × Replies p command moment r first × Runs r commands moments_left others q
