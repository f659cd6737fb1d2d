-- The state of a trustee.
use Rattle.std.specs.Prelude.{ℕ, ◌+◌, ◌≤◌, ◌==◌, Bool, false, not, cond, List, [], length, map, filter, find, sum, slice_index_or, slice_set, IsSomeAnd}
use Rattle.std.specs.declared.option.Option.{Option}
use Rattle.std.specs.declared.option.Option.TheVariants.{None, Some}
use Rattle.tm_batch.specs.declared.message.Name.{Name}
use Rattle.tm_batch.specs.declared.config.Config.{Config}
use Rattle.tm_batch.specs.declared.message.Completion.{Completion}

-- what launched work waits for: its begin, or what it is told of its ask of a trustee and an index
pub data Awaits : Type 0 where
  Start : Awaits
  AskOf : ℕ → ℕ → Awaits

-- an unfinished launch: who launched it, under which ticket, the task that goes on, and what it awaits
pub record Work (T : Type 0) : Type 0 where
  pub place : ℕ
  pub ticket : ℕ
  pub task : T
  pub awaits : Awaits

-- a live id, with its value, its number of holds for each place, and its unfinished launches in order
pub record Object (V T : Type 0) : Type 0 where
  pub id : ℕ
  pub value : V
  pub holds : List ℕ
  pub works : List (Work T)

-- what a place has: how many of its requests were run, whether it is closed, and the gifts and completions that wait for it
pub record Place (V O R T : Type 0) : Type 0 where
  pub served : ℕ
  pub is_closed : Bool
  pub gifts : List Name
  pub ready : List (Completion V O R T)

-- what no entry changes: the config, the trustee's number, and for each trustee by number the ids there that this one holds,
-- none where the number is not greater than its own
pub record Setup : Type 0 where
  pub config : Config
  pub number : ℕ
  pub above : List (List ℕ)

-- the state of a trustee
pub record State (V O R T : Type 0) : Type 0 where
  pub setup : Setup
  pub next_id : ℕ
  pub next_ticket : ℕ
  pub places : List (Place V O R T)
  pub live : List (Object V T)

-- how many places a table has: the clients, and the trustees of smaller numbers
abbrev pub place_count : Setup → ℕ
place_count setup = setup.config.clients + setup.number

-- the ids at a trustee that this one holds
abbrev pub ids_above : Setup → ℕ → List ℕ
ids_above setup u = slice_index_or setup.above u []

module _ {V T : Type 0} where
  -- how many holds a place has on an object
  abbrev pub holds_of : Object V T → ℕ → ℕ
  holds_of o c = slice_index_or o.holds c 0

  -- all holds on an object, and its unfinished launches
  abbrev pub total : Object V T → ℕ
  total o = sum o.holds + length o.works

  -- an object on which a place has n holds
  abbrev pub with_holds : ℕ → ℕ → Object V T → Object V T
  with_holds c n o = record o { holds = slice_set o.holds c n }

  -- the objects with the one of an id changed
  abbrev pub change : ℕ → (Object V T → Object V T) → List (Object V T) → List (Object V T)
  change id f live = map (λ o. cond (o.id == id) (f o) o) live

  -- the objects whose total is not 0
  abbrev pub kept : List (Object V T) → List (Object V T)
  kept live = filter (λ o. not (total o == 0)) live

  -- the objects of other ids
  abbrev pub without : ℕ → List (Object V T) → List (Object V T)
  without id live = filter (λ o. not (o.id == id)) live

  -- the object of an id, if it is live
  abbrev pub object_of : List (Object V T) → ℕ → Option (Object V T)
  object_of live id = find (λ o. o.id == id) live

-- the holds of a place on an object, or 0 where it is not live
abbrev pub holds_in : {V T : Type 0} → Option (Object V T) → ℕ → ℕ
holds_in None c = 0
holds_in (Some o) c = holds_of o c

module _ {V O R T : Type 0} where
  -- a place that nothing came to
  abbrev pub no_place : Place V O R T
  no_place = record { served = 0; is_closed = false; gifts = []; ready = [] }

  -- what a place has
  abbrev pub place_of : State V O R T → ℕ → Place V O R T
  place_of s c = slice_index_or s.places c no_place

  abbrev pub with_place : ℕ → Place V O R T → State V O R T → State V O R T
  with_place c p s = record s { places = slice_set s.places c p }

  abbrev pub with_live : List (Object V T) → State V O R T → State V O R T
  with_live live s = record s { live = live }

  -- how many holds a place has on an id
  abbrev pub holds_at : State V O R T → ℕ → ℕ → ℕ
  holds_at s c id = holds_in (object_of s.live id) c

  -- an id is live, and P holds of its object
  abbrev pub HasObject : State V O R T → ℕ → (Object V T → Type 0) → Type 0
  HasObject s id P = IsSomeAnd (object_of s.live id) P

  -- an id is live and a place holds it
  abbrev pub IsHeld : State V O R T → ℕ → ℕ → Type 0
  IsHeld s c id = HasObject s id (λ o. 1 ≤ holds_of o c)
