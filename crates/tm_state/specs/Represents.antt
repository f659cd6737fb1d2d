-- Which state and which log what a trustee has represents.
use Rattle.std.specs.Prelude.{◌≡◌, ℕ, ◌+◌, ◌-◌, ◌^◌, ◌<◌, ◌≤◌, min, List, [], ◌∷◌, length, map, IsSome}
use Rattle.std.specs.List.{AllByRecursion}
use Rattle.tm_seq.specs.Kind.{Kind}
use Rattle.tm_batch.specs.declared.limits.TheConstants.{WINDOW}
use Rattle.tm_model.specs.declared.entry.Entry.{Entry}
use Rattle.tm_model.specs.declared.entry.Entry.TheVariants.{By, Resume, Sent}
use Rattle.tm_model.specs.State.{State, object_of, place_of}
use Rattle.tm_model.specs.Serve.{state_after}
use Rattle.tm_model.specs.Legal.{IsLegal}
use Rattle.tm_model.specs.Holds.{unfinished}
use Rattle.tm_model.specs.Laws.{IsOpening}
use Rattle.tm_objects.specs.Standing.{stock_of}
use Rattle.tm_state.specs.Launches.{works_at, AwaitsAny}
use Rattle.tm_state.specs.StateView.{StateView}

module _ {V O R T : Type 0} where
  -- how many requests a log ran, of all places
  abbrev pub requests_in : List (Entry V O R T) → ℕ
  requests_in [] = 0
  requests_in (By c k q a ∷ es) = 1 + requests_in es
  requests_in (Resume id ticket event next ∷ es) = requests_in es
  requests_in (Sent c room ∷ es) = requests_in es

  -- what a trustee has is what a state says
  pub record Keeps (s : State V O R T) (h : StateView V O R T) : Type 0 where
    pub config : h.config ≡ s.setup.config
    pub number : h.number ≡ s.setup.number
    pub stock : h.stock ≡ stock_of s
    pub closed : h.closed ≡ map (λ p. p.is_closed) s.places
    pub next_ticket : h.next_ticket ≡ s.next_ticket
    -- of each live object it keeps the unfinished launches, in order, each with its place, its ticket, its own task and what it awaits,
    pub works : AllByRecursion (λ o. works_at o.id h.launched ≡ o.works) s.live
    -- and none of another object
    pub live : AllByRecursion (λ t. IsSome (object_of s.live t.id)) h.launched
    -- what has begun awaits a reply from above
    pub awaits : AllByRecursion (λ t. AwaitsAny s.setup t.task.awaits) h.launched
    -- of each place the completions are ready that the state says, and at most so many of its launches are unfinished or ready
    pub ready : h.ready ≡ map (λ p. p.ready) s.places
    pub most : (c : ℕ) → c < length s.places → unfinished c s.live + length (place_of s c).ready ≤ WINDOW

  -- what a trustee has is what its legal log leaves, from its opening state on
  pub record Represents (kind : Kind V O R T) (opening : State V O R T) (log : List (Entry V O R T)) (h : StateView V O R T) : Type 0 where
    pub opens : IsOpening opening
    pub is_legal : IsLegal kind opening log
    pub keeps : Keeps (state_after kind opening log) h
    pub run : h.run ≡ min (requests_in log) (2 ^ 64 - 1)
    pub entries : h.entries ≡ min (length log) (2 ^ 64 - 1)
