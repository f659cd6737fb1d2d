-- How the lines and the queues stand for the tickets.
use Rattle.std.specs.Prelude.{◌≡◌, ℕ, ◌+◌, ◌≤◌, List, [], ◌∷◌, length, Option, Some, None}
use Rattle.slab.specs.Slab.{Slab, slab_len}
use Rattle.tm_latch.specs.declared.lines.Line.{Line}
use Rattle.tm_latch.specs.declared.queues.Waiting.{Waiting}
use Rattle.tm_latch.specs.declared.ticket.Ticket.{Ticket}
use Rattle.tm_latch.specs.Tickets.{tickets_of}
use Rattle.tm_latch.specs.declared.lines.Node.{Node}
use Rattle.tm_latch.specs.Lines.{Pairs, get, IsTable}
use Rattle.tm_latch.specs.Queues.{IsQueue}

module _ {K : Type 0} where
  -- an object has no line where it has no tickets; else the first is in its line, and the others in its queue
  unfoldable pub IsLine : Slab (Waiting K) → Option Line → List (Ticket K) → Type 0
  IsLine cells None tickets = tickets ≡ []
  IsLine cells (Some line) tickets =
      (t : Ticket K) × (rest : List (Ticket K)) × (tickets ≡ t ∷ rest) × (line.ticket ≡ t.number) × IsQueue cells line.queue rest

  -- lines and cells stand for these tickets, each in one of them, and there is room for all that may be, with one bucket more
  pub record IsSound (firsts : List (Option ℕ)) (nodes : Slab Node) (cells : Slab (Waiting K)) (tickets : List (Ticket K)) (room : ℕ) : Type 0 where
    pub lines : Pairs
    pub table : IsTable firsts nodes lines
    pub each : (id : ℕ) → IsLine cells (get lines id) (tickets_of id tickets)
    pub count : length lines + slab_len cells ≡ length tickets
    pub most : length tickets ≤ room
    pub buckets : length firsts ≡ room + 1
    pub lines_fit : room ≤ nodes.capacity
    pub cells_fit : room ≤ cells.capacity
