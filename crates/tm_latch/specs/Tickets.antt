-- What a contract sees of latches: the tickets that run or wait, in the order in which they came.
use Rattle.std.specs.Prelude.{ℕ, ◌==◌, List, [], ◌∷◌, filter, find, Option, if◌then◌else◌, refl}
use Rattle.std.specs.Coded.{Coded, code_by, coded×, coded_ℕ, coded_list}
use Rattle.tm_latch.specs.declared.ticket.Ticket.{Ticket}

module _ {K : Type 0} where
  -- a ticket for an object, with its task
  abbrev pub ticket_for : ℕ → ℕ → K → Ticket K
  ticket_for id number task = record { id = id; number = number; task = task }

  -- the first ticket of an object, which runs
  abbrev pub first_of : ℕ → List (Ticket K) → Option (Ticket K)
  first_of id tickets = find (λ t. t.id == id) tickets

  -- the tickets of an object: the one that runs, and then those that wait, in order
  abbrev pub tickets_of : ℕ → List (Ticket K) → List (Ticket K)
  tickets_of id tickets = filter (λ t. t.id == id) tickets

  -- the tickets, where the first of an object has another task
  unfoldable pub with_first : ℕ → K → List (Ticket K) → List (Ticket K)
  with_first id task [] = []
  with_first id task (t ∷ rest) = if t.id == id then record t { task = task } ∷ rest else t ∷ with_first id task rest

  -- the tickets but the first of an object
  unfoldable pub without_first : ℕ → List (Ticket K) → List (Ticket K)
  without_first id [] = []
  without_first id (t ∷ rest) = if t.id == id then rest else t ∷ without_first id rest

-- the tickets that run or wait, in the order in which they came, and how many may be
pub record Known (K : Type 0) : Type 0 where
  pub tickets : List (Ticket K)
  pub room : ℕ

-- tickets are stored as the tuples of their fields
abbrev pub ticket_code : {K : Type 0} → Coded K → Coded (Ticket K)
ticket_code {K} code =
    code_by
    (ℕ × (ℕ × K))
    (coded× coded_ℕ (coded× coded_ℕ code))
    (λ t. (t.id, (t.number, t.task)))
    (λ p. record { id = p.0; number = p.1.0; task = p.1.1 })
    (λ _. refl)

abbrev pub known_code : {K : Type 0} → Coded K → Coded (Known K)
known_code {K} code =
    code_by
    (List (Ticket K) × ℕ)
    (coded× (coded_list (ticket_code code)) coded_ℕ)
    (λ s. (s.tickets, s.room))
    (λ p. record { tickets = p.0; room = p.1 })
    (λ _. refl)
