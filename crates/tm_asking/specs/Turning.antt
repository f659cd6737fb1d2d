-- A client at the tables of its trustees, and its turns at those where a request counts.
use Rattle.std.specs.Prelude.{◌≡◌, ◌≢◌, ℕ, zero, suc, ◌≤◌, ◌⊎◌, List, length, slice_get, slice_set}
use Rattle.std.specs.declared.option.Option.TheVariants.{Some}
use Rattle.tm_seq.specs.Kind.{Kind}
use Rattle.tm_batch.specs.declared.limits.TheConstants.{MOST_TRUSTEES}
use Rattle.tm_model.specs.State.{State}
use Rattle.tm_pair.specs.Theory.{Theory}
use Rattle.tm_client.specs.declared.lane.Lane.{Lane}
use Rattle.tm_client.specs.declared.answers.Turn.{Turn}
use Rattle.tm_client.specs.declared.answers.Turn.TheVariants as turn
use Rattle.tm_client.specs.declared.books.Books.{Books}
use Rattle.tm_client.specs.Clients.{IsClient}
use Rattle.tm_client.specs.Turns.{HasTurned}
use Rattle.tm_asking.specs.declared.turning.Turned.{Turned}
use Rattle.tm_asking.specs.declared.turning.Turned.TheVariants.{Nothing, Pending, Arrived, Moved}

-- what a turn says of itself
abbrev pub told_of : Turn → Turned
told_of turn.Pending = Pending
told_of (turn.Sent n) = Moved
told_of (turn.Got n) = Moved
told_of turn.Idle = Arrived

-- What some turns say together: that one moved requests or answers; else that at one all had arrived; else that all were pending; and
-- nothing where there was none.
abbrev pub told_with : Turned → Turned → Turned
told_with Nothing told = told
told_with Pending Nothing = Pending
told_with Pending told = told
told_with Arrived Moved = Moved
told_with Arrived _ = Arrived
told_with Moved told = Moved

module _ {V C D O R T Table Owner : Type 0} (theory : Theory V O R T Table D Owner) where
  -- a client whose sides are those of these tables, which opened so, one for each trustee in order
  pub record IsAtTables (openings : ℕ → State V O R T) (tables : List Table) (books : Books V C D O R T) : Type 0 where
    pub few : length tables ≤ MOST_TRUSTEES
    pub as_many : length tables ≡ length books.lanes.items
    pub opens : (t : ℕ) (table : Table) → slice_get tables t ≡ Some table → openings t ≡ theory.opening table
    pub mine : (t : ℕ) (table : Table) (lane : Lane V C D O R T) → slice_get tables t ≡ Some table → slice_get books.lanes.items t ≡ Some lane
        → theory.HasClient table lane.side
    pub client : IsClient theory.client_view openings books

  -- the client made its turn at trustee t, at that trustee's table
  pub record TurnsAt (kind : Kind V O R T) (t : ℕ) (answer : Turn) (tables : List Table) (books : Books V C D O R T)
      (tables_new : List Table) (books_new : Books V C D O R T) : Type 0 where
    pub was : Table
    pub now : Table
    pub of_table : slice_get tables t ≡ Some was
    pub turned : HasTurned theory kind t answer was now books books_new
    -- it is a client still, whatever the states in which the trustees opened
    pub still : (openings : ℕ → State V O R T) → openings t ≡ theory.opening was → IsClient theory.client_view openings books
        → IsClient theory.client_view openings books_new
    pub tables_are : tables_new ≡ slice_set tables t now

  -- what a request counts for: at trustee t one turn was made where a request counts, and else nothing
  abbrev pub TurnsWhereCounting : Kind V O R T → ℕ → Turned → List Table → Books V C D O R T → List Table → Books V C D O R T → Type 0
  TurnsWhereCounting kind t told tables books tables_new books_new =
      (lane : Lane V C D O R T) × (slice_get books.lanes.items t ≡ Some lane)
      × (((lane.counting ≡ 0) × (told ≡ Nothing) × (tables_new ≡ tables) × (books_new ≡ books))
      ⊎ ((lane.counting ≢ 0) × ((answer : Turn) × (told ≡ told_of answer) × TurnsAt kind t answer tables books tables_new books_new)))

  -- at each trustee below n one turn was made where a request counts, in order, and no other; what they say together
  unfoldable pub TurnsBelow : Kind V O R T → ℕ → Turned → List Table → Books V C D O R T → List Table → Books V C D O R T → Type 0
  TurnsBelow kind zero told tables books tables_new books_new = (told ≡ Nothing) × (tables_new ≡ tables) × (books_new ≡ books)
  TurnsBelow kind (suc n) told tables books tables_new books_new =
      (mid : List Table) × (book : Books V C D O R T) × (before : Turned) × (here : Turned)
      × TurnsBelow kind n before tables books mid book × TurnsWhereCounting kind n here mid book tables_new books_new
      × (told ≡ told_with before here)
