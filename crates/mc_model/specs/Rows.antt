-- What an operation on one key does: for each operation its rows, of which the first that applies holds.
use Rattle.std.specs.Prelude.{ℕ, ◌+◌, ◌-◌, ◌*◌, ◌%◌, ◌^◌, ℤ, Bool, true, false, nat_lt, ◌==◌, if◌then◌else◌, List, ◌++◌, length, Option, Some, None}
use Rattle.std.specs.Fmt.{decimal}
use Rattle.mc_item.specs.declared.limits.TheConstants.{CLASSES, LARGEST_VALUE, MOST_CHANGES}
use Rattle.mc_item.specs.Expiry.{due_at}
use Rattle.mc_item.specs.Numbers.{number_below}
use Rattle.mc_item.specs.declared.expiry.Expiry.{Expiry}
use Rattle.mc_model.specs.declared.item.Item.{Item}
use Rattle.mc_model.specs.declared.message.How.{How}
use Rattle.mc_model.specs.declared.message.How.TheVariants.{Set, Add, Replace, Append, Prepend, Cas}
use Rattle.mc_model.specs.declared.reply.ShardReply.{ShardReply}
use Rattle.mc_model.specs.declared.reply.ShardReply.TheVariants as reply

-- an operation on one key
pub data KeyOp : Type 0 where
  -- how, flags, exptime and value
  Store : How → ℕ → ℤ → List ℕ → KeyOp
  Get : KeyOp
  GetTouch : ℤ → KeyOp
  -- up or down, and by how much
  Change : Bool → ℕ → KeyOp
  Touch : ℤ → KeyOp
  Delete : KeyOp

-- what it does to the item of the key
pub data Effect : Type 0 where
  -- nothing, and the order stays
  Keep : Effect
  -- the item is used: it goes first, and is this one then
  Use : Item → Effect
  -- this item is put: that is a change of the class, and the item goes first; of more items than the bound the last goes
  Put : Item → Effect
  -- the item goes
  Remove : Effect

-- the reply, what becomes of the item, and whether a store is counted
pub record Outcome : Type 0 where
  pub reply : ShardReply
  pub effect : Effect
  pub is_store : Bool

-- the cas number of a class's change of this number
abbrev pub cas_of : ℕ → ℕ → ℕ
cas_of class change = CLASSES * change + class

-- how many changes a class had after an effect
abbrev pub changes_after : ℕ → Effect → ℕ
changes_after changes Keep = changes
changes_after changes (Use item) = changes
changes_after changes (Put item) = changes + 1
changes_after changes Remove = changes

-- a reply with an effect, and no store is counted
abbrev pub with_effect : ShardReply → Effect → Outcome
with_effect reply effect = record { reply = reply; effect = effect; is_store = false }

-- a reply, and nothing changes
abbrev pub refused : ShardReply → Outcome
refused reply = with_effect reply Keep

-- ---- store

-- what the item of the key says against a store of a value of this length
abbrev pub refusal_of : How → ℕ → Option Item → Option ShardReply
refusal_of Set size before = None
refusal_of Add size (Some item) = Some reply.NotStored
refusal_of Add size None = None
refusal_of Replace size None = Some reply.NotStored
refusal_of Replace size (Some item) = None
refusal_of Append size None = Some reply.NotStored
refusal_of Append size (Some item) = if nat_lt LARGEST_VALUE (length item.value + size) then Some reply.TooLarge else None
refusal_of Prepend size None = Some reply.NotStored
refusal_of Prepend size (Some item) = if nat_lt LARGEST_VALUE (length item.value + size) then Some reply.TooLarge else None
refusal_of (Cas unique) size None = Some reply.NotFound
refusal_of (Cas unique) size (Some item) = if item.cas == unique then None else Some reply.Exists

-- the item stored: an append or prepend joins the values, and keeps flags and due
abbrev pub stored_item : How → ℕ → Expiry → List ℕ → ℕ → Option Item → Item
stored_item Append flags due value cas (Some item) = record { value = item.value ++ value; flags = item.flags; due = item.due; cas = cas }
stored_item Prepend flags due value cas (Some item) = record { value = value ++ item.value; flags = item.flags; due = item.due; cas = cas }
stored_item how flags due value cas before = record { value = value; flags = flags; due = due; cas = cas }

-- stored, unless it is refused or no change is left
abbrev pub store_unless : Option ShardReply → ℕ → Item → Outcome
store_unless (Some refusal) changes item = refused refusal
store_unless None changes item =
    if changes == MOST_CHANGES then refused reply.OutOfCas
    else record { reply = reply.Stored; effect = Put item; is_store = true }

abbrev pub store_outcome : ℕ → ℕ → ℕ → How → ℕ → ℤ → List ℕ → Option Item → Outcome
store_outcome class moment changes how flags exptime value before =
    if nat_lt LARGEST_VALUE (length value) then refused reply.TooLarge
    else store_unless (refusal_of how (length value) before) changes
    (stored_item how flags (due_at exptime moment) value (cas_of class (changes + 1)) before)

-- ---- get, change, touch, delete

-- the item, but that it goes at another time
abbrev pub with_due : Expiry → Item → Item
with_due due item = record { value = item.value; flags = item.flags; due = due; cas = item.cas }

-- the item, but that a change of this cas number gave it another value
abbrev pub with_value : List ℕ → ℕ → Item → Item
with_value value cas item = record { value = value; flags = item.flags; due = item.due; cas = cas }

-- the reply that shows an item
abbrev pub shows : Item → ShardReply
shows item = reply.Item item.flags item.cas item.value

abbrev pub get_outcome : Option Item → Outcome
get_outcome None = refused reply.Missing
get_outcome (Some item) = with_effect (shows item) (Use item)

-- it is shown as a get shows it, goes at another time, and keeps its cas number
abbrev pub get_touch_outcome : ℕ → ℤ → Option Item → Outcome
get_touch_outcome moment exptime None = refused reply.Missing
get_touch_outcome moment exptime (Some item) = with_effect (shows item) (Use (with_due (due_at exptime moment) item))

-- a number after a change: it wraps at 2 ^ 64 upwards, and stops at 0 downwards
abbrev pub changed : Bool → ℕ → ℕ → ℕ
changed true number by = (number + by) % 2 ^ 64
changed false number by = number - by

-- the value, read as this number, becomes the decimal text of the changed one; flags and due stay
abbrev pub change_number : ℕ → ℕ → Bool → ℕ → Item → Option ℕ → Outcome
change_number class changes up by item None = refused reply.NonNumeric
change_number class changes up by item (Some number) =
    if changes == MOST_CHANGES then refused reply.OutOfCas
    else with_effect (reply.Number (changed up number by)) (Put (with_value (decimal (changed up number by)) (cas_of class (changes + 1)) item))

abbrev pub change_outcome : ℕ → ℕ → Bool → ℕ → Option Item → Outcome
change_outcome class changes up by None = refused reply.NotFound
change_outcome class changes up by (Some item) = change_number class changes up by item (number_below (2 ^ 64) item.value)

-- the item goes at another time, and keeps its cas number
abbrev pub touch_outcome : ℕ → ℤ → Option Item → Outcome
touch_outcome moment exptime None = refused reply.NotFound
touch_outcome moment exptime (Some item) = with_effect reply.Touched (Use (with_due (due_at exptime moment) item))

abbrev pub delete_outcome : Option Item → Outcome
delete_outcome None = refused reply.NotFound
delete_outcome (Some item) = with_effect reply.Deleted Remove

-- what an operation does in a class, at a moment and after so many changes, where the key has this
abbrev pub outcome_of : ℕ → ℕ → ℕ → KeyOp → Option Item → Outcome
outcome_of class moment changes (Store how flags exptime value) before = store_outcome class moment changes how flags exptime value before
outcome_of class moment changes Get before = get_outcome before
outcome_of class moment changes (GetTouch exptime) before = get_touch_outcome moment exptime before
outcome_of class moment changes (Change up by) before = change_outcome class changes up by before
outcome_of class moment changes (Touch exptime) before = touch_outcome moment exptime before
outcome_of class moment changes Delete before = delete_outcome before
