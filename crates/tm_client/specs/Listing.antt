-- A client's list of trusts, as contracts see it.
use Rattle.std.specs.Prelude.{◌≡◌, ℕ, ◌+◌, ◌==◌, cond, List, [], ◌∷◌}
use Rattle.std.specs.declared.option.Option.{Option}
use Rattle.std.specs.declared.option.Option.TheVariants.{None, Some}
use Rattle.slab.specs.Slab.{slab_len, get, Updates}
use Rattle.tm_batch.specs.declared.message.Name.{Name}
use Rattle.tm_client.specs.declared.holds.Hold.{Hold}
use Rattle.tm_client.specs.declared.holds.Holds.{Holds}

-- what a client's list says of a trust of trustee t
abbrev pub hold_of : ℕ → Name → Hold
hold_of t name = record { trustee = t; id = name.id }

-- one where trustee and id are these
abbrev pub is_at : ℕ → ℕ → ℕ → ℕ → ℕ
is_at t id trustee named = cond (trustee == t) (cond (named == id) 1 0) 0

-- how many of some places have a hold on an id of trustee t
abbrev pub listed_in : ℕ → ℕ → List (Option Hold) → ℕ
listed_in t id [] = 0
listed_in t id (None ∷ places) = listed_in t id places
listed_in t id (Some h ∷ places) = is_at t id h.trustee h.id + listed_in t id places

-- how often a list of trusts has an id of trustee t, and how many trusts it has
abbrev pub listed : ℕ → ℕ → Holds → ℕ
listed t id holds = listed_in t id holds.places.slots

abbrev pub held_count : Holds → ℕ
held_count holds = slab_len holds.places

-- for how many trusts it has room
abbrev pub room_for : Holds → ℕ
room_for holds = holds.places.capacity

-- what stands at a place of it
abbrev pub held_at : Holds → ℕ → Option Hold
held_at holds at = get holds.places at

abbrev pub HasHold : Holds → Hold → Type 0
HasHold holds h = (at : ℕ) × (held_at holds at ≡ Some h)

-- a list of trusts got a hold at a place where nothing stood; all else stays where it was
pub record Gains (h : Hold) (at : ℕ) (old new : Holds) : Type 0 where
  pub free : held_at old at ≡ None
  pub updates : Updates old.places new.places at (Some h)
  pub count : held_count new ≡ held_count old + 1
  pub room : room_for new ≡ room_for old

-- a list of trusts lost the hold that stood at a place; all else stays where it was
pub record Loses (h : Hold) (at : ℕ) (old new : Holds) : Type 0 where
  pub there : held_at old at ≡ Some h
  pub updates : Updates old.places new.places at None
  pub count : held_count new + 1 ≡ held_count old
  pub room : room_for new ≡ room_for old
