-- What tasks owe of their client, and what its tables are.
use Rattle.std.specs.Prelude.{◌≡◌, ℕ, ◌+◌, ◌≤◌, ◌==◌, cond, List, [], ◌∷◌, length, slice_get}
use Rattle.std.specs.List.{AllByRecursion}
use Rattle.std.specs.declared.option.Option.{Option}
use Rattle.std.specs.declared.option.Option.TheVariants.{None, Some}
use Rattle.tm_batch.specs.declared.limits.TheConstants.{MOST_TRUSTEES}
use Rattle.tm_model.specs.State.{State}
use Rattle.tm_pair.specs.Theory.{Theory}
use Rattle.tm_pair.specs.Views.{ClientView}
use Rattle.tm_client.specs.declared.answers.Arrival.{Arrival}
use Rattle.tm_client.specs.declared.books.Books.{Books}
use Rattle.tm_client.specs.declared.lane.Lane.{Lane}
use Rattle.tm_client.specs.declared.lane.Unfinished.{Unfinished}
use Rattle.tm_client.specs.declared.lane.Waiting.{Waiting}
use Rattle.tm_client.specs.declared.trust.Trust.{Trust}
use Rattle.tm_client.specs.Asking.{IsHeldBy, IsOpen}
use Rattle.tm_client.specs.Clients.{IsClient}
use Rattle.tm_client.specs.Listing.{is_at}
use Rattle.tm_task.specs.declared.stage.Stage.{Stage}
use Rattle.tm_task.specs.declared.stage.Stage.TheVariants.{Waits}

-- how many of some continuations of trustee t are of number n, for a request on the object of that id
abbrev pub of_waiting : ℕ → ℕ → List (Waiting ℕ) → ℕ
of_waiting n id [] = 0
of_waiting n id (w ∷ waiting) = cond (w.after == n) (cond (w.name.id == id) 1 0) 0 + of_waiting n id waiting

-- how many of some launches that lack their completion
abbrev pub of_launched : ℕ → ℕ → List (Unfinished ℕ) → ℕ
of_launched n id [] = 0
of_launched n id (l ∷ launched) = cond (l.after == n) (cond (l.name.id == id) 1 0) 0 + of_launched n id launched

module _ {V O R K : Type 0} where
  -- how many of some arrivals are of number n, to a request on the object of that id at trustee t
  abbrev pub of_arrived : ℕ → ℕ → ℕ → List (Arrival V ℕ O R K) → ℕ
  of_arrived n t id [] = 0
  of_arrived n t id (a ∷ arrived) = cond (a.after == n) (is_at t id a.trustee a.name.id) 0 + of_arrived n t id arrived

module _ {V O R K D : Type 0} where
  abbrev pub waiting_at : Option (Lane V ℕ D O R K) → List (Waiting ℕ)
  waiting_at None = []
  waiting_at (Some lane) = lane.afters.items

  abbrev pub launched_at : Option (Lane V ℕ D O R K) → List (Unfinished ℕ)
  launched_at None = []
  launched_at (Some lane) = lane.launched.items

  -- how many requests on the object of that id at trustee t count of a client that have continuation n
  abbrev pub counting_for : ℕ → ℕ → ℕ → Books V ℕ D O R K → ℕ
  counting_for n t id books =
      of_waiting n id (waiting_at (slice_get books.lanes.items t)) + of_launched n id (launched_at (slice_get books.lanes.items t))
      + of_arrived n t id books.arrived.items

-- one where the trust is of that object
abbrev pub is_of : ℕ → ℕ → Option Trust → ℕ
is_of t id None = 0
is_of t id (Some trust) = is_at t id trust.trustee trust.name.id

module _ {V T U O R K : Type 0} (trusts : List Trust) where
  -- one where a task at that stage waits for an answer of the object of that id at trustee t
  abbrev pub awaits : ℕ → ℕ → Option (Stage V T U O R K) → ℕ
  awaits t id (Some (Waits i task)) = is_of t id (slice_get trusts i)
  awaits t id _ = 0

module _ {V T U O R K D : Type 0} where
  -- each request that counts is of these tasks: for each task that waits for an answer just one counts, of the object that it asked, with
  -- the task's number for its continuation, and no other
  abbrev pub AreTheirs : List Trust → List (Stage V T U O R K) → Books V ℕ D O R K → Type 0
  AreTheirs trusts stages books = (n t id : ℕ) → counting_for n t id books ≡ awaits trusts t id (slice_get stages n)

module _ {V O R K C D : Type 0} where
  -- the client holds the trusts, and did not close at their trustees
  abbrev pub HoldsOpen : Books V C D O R K → List Trust → Type 0
  HoldsOpen books trusts = AllByRecursion (λ trust. IsHeldBy books trust × IsOpen books trust.trustee) trusts

  module _ {Table Owner : Type 0} (theory : Theory V O R K Table D Owner) where
    -- these are the tables of a client's trustees, in their order, which opened in these states
    pub record AreTables (openings : ℕ → State V O R K) (books : Books V C D O R K) (tables : List Table) : Type 0 where
      pub limit : length tables ≤ MOST_TRUSTEES
      pub as_many : length tables ≡ length books.lanes.items
      pub mine : (t : ℕ) (table : Table) (lane : Lane V C D O R K) → slice_get tables t ≡ Some table → slice_get books.lanes.items t ≡ Some lane
          → theory.HasClient table lane.side
      pub opens : (t : ℕ) (table : Table) → slice_get tables t ≡ Some table → openings t ≡ theory.opening table

    -- so it is of a client, in whatever states they opened
    abbrev pub AreOfClient : Books V C D O R K → List Table → Type 0
    AreOfClient books tables =
        (openings : ℕ → State V O R K) × AreTables openings books tables × IsClient theory.client_view openings books

    -- a client stays one, with its tables
    abbrev pub KeepsTables : Books V C D O R K → Books V C D O R K → List Table → List Table → Type 0
    KeepsTables was now before after =
        (openings : ℕ → State V O R K) → AreTables openings was before → IsClient theory.client_view openings was
        → AreTables openings now after × IsClient theory.client_view openings now

  module _ (view : D → ClientView V O R K) where
    -- a client, in whatever states its trustees opened; and it stays one
    abbrev pub IsOne : Books V C D O R K → Type 0
    IsOne books = (openings : ℕ → State V O R K) × IsClient view openings books

    abbrev pub StaysOne : Books V C D O R K → Books V C D O R K → Type 0
    StaysOne was now = (openings : ℕ → State V O R K) → IsClient view openings was → IsClient view openings now
