-- The tickets that wait for an object, as a chain of cells.
use Rattle.std.specs.Prelude.{◌≡◌, ◌≢◌, ⊤, ℕ, List, [], ◌∷◌, Option, Some, None}
use Rattle.slab.specs.Slab.{Slab, get}
use Rattle.tm_latch.specs.declared.lines.Ends.{Ends}
use Rattle.tm_latch.specs.declared.queues.Waiting.{Waiting}
use Rattle.tm_latch.specs.declared.ticket.Ticket.{Ticket}

module _ {K : Type 0} where
  -- the cell of a ticket that waits, with the key of the next
  abbrev pub cell_of : Ticket K → Option ℕ → Waiting K
  cell_of t next = record { id = t.id; number = t.number; task = t.task; next = next }

  -- behind the cell of this key, whose next is this, stand the tickets in order, and the last cell has this key
  unfoldable pub Follows : Slab (Waiting K) → ℕ → Option ℕ → List (Ticket K) → ℕ → Type 0
  Follows cells key next [] last = (next ≡ None) × (key ≡ last)
  Follows cells key next (t ∷ rest) last =
      (after : ℕ) × (more : Option ℕ) × (next ≡ Some after) × (get cells after ≡ Some (cell_of t more)) × Follows cells after more rest last

  -- the tickets stand in order from the first cell to the last
  unfoldable pub IsQueue : Slab (Waiting K) → Option Ends → List (Ticket K) → Type 0
  IsQueue cells None tickets = tickets ≡ []
  IsQueue cells (Some ends) tickets =
      (t : Ticket K) × (rest : List (Ticket K)) × (more : Option ℕ) × (tickets ≡ t ∷ rest) × (get cells ends.first ≡ Some (cell_of t more))
      × Follows cells ends.first more rest ends.last

  -- tickets of one object
  unfoldable pub AreOf : ℕ → List (Ticket K) → Type 0
  AreOf id [] = ⊤
  AreOf id (t ∷ rest) = (t.id ≡ id) × AreOf id rest

  -- the queues of other objects stay
  abbrev pub KeepsOthers : ℕ → Slab (Waiting K) → Slab (Waiting K) → Type 0
  KeepsOthers id old new =
      (other : ℕ) (queue : Option Ends) (tickets : List (Ticket K)) → other ≢ id → AreOf other tickets → IsQueue old queue tickets → IsQueue new queue tickets

  -- some tickets of the object stand in the queue
  abbrev pub IsQueueOf : ℕ → Slab (Waiting K) → Option Ends → Type 0
  IsQueueOf id cells queue = (tickets : List (Ticket K)) × AreOf id tickets × IsQueue cells queue tickets
