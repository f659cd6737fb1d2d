-- Worked cases of a class and of the plain store, which the checker computes.
use Rattle.std.proofs.Common.{◌≡◌, ℕ, ◌+◌, ◌-◌, ◌^◌, ℤ, pos, neg_ℤ, true, List, [], ◌∷◌, map, Some, None, refl}
use Rattle.mc_item.specs.Classes.{class_of, hash_of}
use Rattle.mc_item.specs.Expiry.{due_at}
use Rattle.mc_item.specs.Numbers.{number_below, digits_below}
use Rattle.mc_item.specs.declared.expiry.Expiry.{Expiry}
use Rattle.mc_item.specs.declared.expiry.Expiry.TheVariants.{Never, At}
use Rattle.mc_model.specs.declared.item.Item.{Item}
use Rattle.mc_model.specs.declared.message.How.TheVariants.{Set, Add, Cas}
use Rattle.mc_model.specs.declared.reply.ShardReply.{ShardReply}
use Rattle.mc_model.specs.declared.reply.ShardReply.TheVariants as reply
use Rattle.mc_model.specs.Moments.{moments_of}
use Rattle.mc_model.specs.Items.{Items, without, first, live, of_classes, first_of}
use Rattle.mc_model.specs.Rows.{KeyOp, Store, Get, GetTouch, Change, Touch}
use Rattle.mc_model.specs.Class.{Class, new_class, key_step, flush_step, standing}
use Rattle.mc_model.specs.Plain.{Plain, new_store, plain_key_step, plain_flushed}

-- keys of class 33, and one of class 34
a : List ℕ
a = 97 ∷ []

mark : List ℕ
mark = 33 ∷ []

two : List ℕ
two = 48 ∷ 81 ∷ []

b : List ℕ
b = 98 ∷ []

-- an operation on a key, and its moment
abbrev Step : Type 0
Step = List ℕ × (KeyOp × ℕ)

-- the class after operations
after : Class → List Step → Class
after s [] = s
after s (o ∷ others) = after (key_step s o.0 o.1.0 o.1.1).0 others

-- the replies to operations
replies : Class → List Step → List ShardReply
replies s [] = []
replies s (o ∷ others) = let step = key_step s o.0 o.1.0 o.1.1 in step.1 ∷ replies step.0 others

-- the keys that have an item, the most recently used first
keys : Items → List (List ℕ)
keys items = map (λ e. e.0) items

-- class 33, where two items have room
small : Class
small = new_class 33 0 2

-- a set of the byte 120, with this exptime
set : List ℕ → ℤ → ℕ → Step
set key exptime moment = (key, (Store Set 0 exptime (120 ∷ []), moment))

abbrev item : Expiry → ℕ → Item
item due cas = record { value = 120 ∷ []; flags = 0; due = due; cas = cas }

-- ---- the order

-- the third item drives out the one that was used last
third : keys (after small (set a (pos 0) 100 ∷ set mark (pos 0) 100 ∷ set two (pos 0) 100 ∷ [])).items ≡ two ∷ mark ∷ []
unfolding a mark two after keys small set live first without due_at
third = refl

-- a get is a use
get_uses : keys (after small (set a (pos 0) 100 ∷ set mark (pos 0) 100 ∷ (a, (Get, 100)) ∷ set two (pos 0) 100 ∷ [])).items ≡ two ∷ a ∷ []
unfolding a mark two after keys small set live first without due_at
get_uses = refl

-- a touch is one, and keeps the cas number
touch_uses : (after small (set a (pos 0) 100 ∷ set mark (pos 0) 100 ∷ (a, (Touch (pos 50), 100)) ∷ [])).items ≡ (a, item (At 150) 97) ∷ (mark, item Never 161) ∷ []
unfolding a mark two after keys small set live first without due_at
touch_uses = refl

-- a gat is one, shows the item, and lets it go at another time
gat_uses : key_step (after small (set a (pos 0) 100 ∷ set mark (pos 0) 100 ∷ [])) a (GetTouch (pos 20)) 105
    ≡ (record { class = 33; bound = 2; items = (a, item (At 125) 97) ∷ (mark, item Never 161) ∷ []; moment = 105; changes = 2; stored = 2; pending = None }, reply.Item 0 97 (120 ∷ []))
unfolding a mark two after keys small set live first without due_at
gat_uses = refl

-- a gat with a negative exptime shows the item, which is gone at the next operation
gat_away : replies small (set a (pos 0) 100 ∷ (a, (GetTouch (neg_ℤ (pos 1)), 100)) ∷ (a, (Get, 100)) ∷ []) ≡ reply.Stored ∷ reply.Item 0 97 (120 ∷ []) ∷ reply.Missing ∷ []
unfolding a mark two after replies small set live first without due_at
gat_away = refl

-- a refusal is no use: a cas with another number, an add of a key that is there, an append to none
exists_is_no_use :
    keys (after small (set a (pos 0) 100 ∷ set mark (pos 0) 100 ∷ (a, (Store (Cas 1) 0 (pos 0) (119 ∷ []), 100)) ∷ (a, (Store Add 0 (pos 0) (119 ∷ []), 100)) ∷ set two (pos 0) 100 ∷ [])).items
    ≡ two ∷ mark ∷ []
unfolding a mark two after keys small set live first without due_at
exists_is_no_use = refl

-- an incr of what is no number is no use either
no_number_is_no_use : (after small (set a (pos 0) 100 ∷ set mark (pos 0) 100 ∷ (a, (Change true 1, 100)) ∷ [])).items ≡ (mark, item Never 161) ∷ (a, item Never 97) ∷ []
unfolding a mark two after keys small set live first without due_at number_below digits_below
no_number_is_no_use = refl

-- a key that is put again drives none out, whatever the bound
again : keys (after small (set a (pos 0) 100 ∷ set mark (pos 0) 100 ∷ set a (pos 0) 100 ∷ [])).items ≡ a ∷ mark ∷ []
unfolding a mark two after keys small set live first without due_at
again = refl

-- ---- expiry

-- an item that is put already expired drives another out before it goes itself
expired_drives_out :
    keys (after small (set a (pos 0) 100 ∷ set mark (pos 0) 100 ∷ set two (neg_ℤ (pos 1)) 100 ∷ [])).items ≡ two ∷ mark ∷ []
unfolding a mark two after keys small set live first without due_at
expired_drives_out = refl

and_goes :
    keys (standing (after small (set a (pos 0) 100 ∷ set mark (pos 0) 100 ∷ set two (neg_ℤ (pos 1)) 100 ∷ []))) ≡ mark ∷ []
unfolding a mark two after keys small set live first without due_at
and_goes = refl

-- what is expired goes first, so that it drives no other out
expired_goes_first : keys (after small (set mark (pos 0) 100 ∷ set a (pos 10) 100 ∷ set two (pos 0) 110 ∷ [])).items ≡ two ∷ mark ∷ []
unfolding a mark two after keys small set live first without due_at
expired_goes_first = refl

-- ---- a flush

-- two clients with unlike clocks: the flush counts from its own moment, 50, and is due at 60, so that it is done at once
flush_of_late_clock : (flush_step (after small (set a (pos 0) 100 ∷ [])) 10 50).0 ≡ record { class = 33; bound = 2; items = []; moment = 100; changes = 1; stored = 1; pending = None }
unfolding a after small set live first without due_at
flush_of_late_clock = refl

flush_of_late_clock_waits : (flush_step (after small (set a (pos 0) 100 ∷ [])) 100 50).0 ≡ record { class = 33; bound = 2; items = (a, item Never 97) ∷ []; moment = 100; changes = 1; stored = 1; pending = Some 150 }
unfolding a after small set live first without due_at
flush_of_late_clock_waits = refl

-- a moment past 2 ^ 62 counts as that
flush_of_last_moment : (flush_step small 1 (2 ^ 63)).0 ≡ record { class = 33; bound = 2; items = []; moment = 2 ^ 62; changes = 0; stored = 0; pending = Some (2 ^ 62 + 1) }
unfolding small live
flush_of_last_moment = refl

-- ---- the last change

-- after 2 ^ 58 - 1 changes nothing is put, and the other refusals come first
full : Class
full = record { class = 33; bound = 2; items = (a, item Never 97) ∷ []; moment = 100; changes = 2 ^ 58 - 1; stored = 2 ^ 64 - 1; pending = None }

out_of_cas : (key_step full mark (Store Set 0 (pos 0) (120 ∷ [])) 100) ≡ (full, reply.OutOfCas)
unfolding full a mark live first without due_at
out_of_cas = refl

add_is_refused_first : (key_step full a (Store Add 0 (pos 0) (120 ∷ [])) 100) ≡ (full, reply.NotStored)
unfolding full a mark live first without due_at
add_is_refused_first = refl

cas_is_refused_first : (key_step full a (Store (Cas 98) 0 (pos 0) (120 ∷ [])) 100) ≡ (full, reply.Exists)
unfolding full a mark live first without due_at
cas_is_refused_first = refl

-- one change is left before, with the greatest cas number of the class; the number of stores stands still
last_change : (key_step (record full { changes = 2 ^ 58 - 2 }) mark (Store Set 0 (pos 0) (120 ∷ [])) 100).0
    ≡ record full { items = (mark, item Never (2 ^ 64 - 64 + 33)) ∷ (a, item Never 97) ∷ [] }
unfolding full a mark live first without due_at
last_change = refl

-- ---- the plain store: of a class with more items than the bound the last goes, wherever it stands among all
plain_after : Plain → List Step → Plain
plain_after p [] = p
plain_after p (o ∷ others) = plain_after (plain_key_step p o.0 o.1.0 o.1.1).0 others

one_each : keys (plain_after (new_store 1) (set a (pos 0) 100 ∷ set b (pos 0) 100 ∷ set mark (pos 0) 100 ∷ [])).items ≡ mark ∷ b ∷ []
unfolding a b mark plain_after keys set live first without of_classes first_of class_of hash_of due_at
one_each = refl

two_each : keys (plain_after (new_store 2) (set a (pos 0) 100 ∷ set mark (pos 0) 100 ∷ set b (pos 0) 100 ∷ (a, (Get, 100)) ∷ set two (pos 0) 100 ∷ [])).items ≡ two ∷ a ∷ b ∷ []
unfolding a b mark two plain_after keys set live first without of_classes first_of class_of hash_of due_at
two_each = refl

-- a flush of one class leaves the others
flush_of_one : keys (plain_flushed 33 0 100 (plain_after (new_store 2) (set a (pos 0) 100 ∷ set b (pos 0) 100 ∷ []))).items ≡ b ∷ []
unfolding a b mark two plain_after keys set live first without of_classes first_of class_of hash_of due_at
flush_of_one = refl

-- ---- moments: the greatest reading so far, none past 2 ^ 62
moments : moments_of (100 ∷ 120 ∷ 105 ∷ (2 ^ 63) ∷ 0 ∷ []) ≡ 100 ∷ 120 ∷ 120 ∷ (2 ^ 62) ∷ (2 ^ 62) ∷ []
moments = refl
