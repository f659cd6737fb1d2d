-- What the launched work of a trustee awaits, after all that it has done.
use Rattle.std.specs.Prelude.{◌≡◌, ℕ, nat_eq, ◌+◌, ◌<◌, ◌≤◌, ◌⊎◌, true, List, ◌∷◌, length, map}
use Rattle.std.specs.List.{AllByRecursion, IsDistinct}
use Rattle.tm_seq.specs.Kind.{Kind}
use Rattle.tm_model.specs.declared.entry.Entry.{Entry}
use Rattle.tm_model.specs.State.{Awaits, Start, AskOf, Work, Setup, State, ids_above, place_of, place_count}
use Rattle.tm_model.specs.Serve.{state_after}
use Rattle.tm_model.specs.Legal.{HasFirst}
use Rattle.tm_model.specs.Holds.{has_bye, unfinished}
use Rattle.tm_model.specs.Ran.{ran}
use Rattle.tm_trustee.specs.NestedAsks.{NestedAsk, works_at, asks_of, replies_of, pending_of, IsAmong}

-- launched work awaits the reply to an ask of an object that is held at trustee u
abbrev pub IsAskAt : Setup → ℕ → Awaits → Type 0
IsAskAt setup u Start = ⊥
IsAskAt setup u (AskOf v i) = (v ≡ u) × (i < length (ids_above setup u))

module _ {O T : Type 0} where
  -- the ask of a launch on an id is among some
  abbrev pub IsAskedBy : ℕ → Work T → List (NestedAsk O) → Type 0
  IsAskedBy id w asks = (a : NestedAsk O) × IsAmong a asks × (a.by ≡ id) × (a.ticket ≡ w.ticket)

module _ {V O R T : Type 0} where
  -- a launch on an id awaits the reply to an ask of a greater trustee that is pending
  abbrev pub IsWaiting : Kind V O R T → State V O R T → List (Entry V O R T) → ℕ → Work T → Type 0
  IsWaiting kind opening done id w =
      (u : ℕ) × (opening.setup.number < u) × IsAskAt opening.setup u w.awaits × IsAskedBy id w (pending_of kind opening u done)

  -- the work of a trustee that has done so much
  pub record AreAwaited (kind : Kind V O R T) (opening : State V O R T) (done : List (Entry V O R T)) : Type 0 where
    -- the first launch of an object has not begun, or its ask is pending
    pub firsts : (id : ℕ) (w : Work T) (ws : List (Work T)) → works_at (state_after kind opening done) id ≡ w ∷ ws
        → (w.awaits ≡ Start) ⊎ IsWaiting kind opening done id w
    -- each pending ask is that of the first launch of its object
    pub asked : (u : ℕ) → opening.setup.number < u
        → AllByRecursion
        (λ a. HasFirst (works_at (state_after kind opening done) a.by) (λ w. (w.ticket ≡ a.ticket) × IsAskAt opening.setup u w.awaits))
        (pending_of kind opening u done)
    -- no launch behind the first of its object has begun
    pub behind : (id : ℕ) (w : Work T) (ws : List (Work T)) → works_at (state_after kind opening done) id ≡ w ∷ ws
        → AllByRecursion (λ x. x.awaits ≡ Start) ws
    -- no more replies were told than asks were made, and of each object one ask is pending at most
    pub enough : (u : ℕ) → opening.setup.number < u → length (replies_of kind opening u done) ≤ length (asks_of opening.setup u done)
    pub once : (u : ℕ) → opening.setup.number < u → IsDistinct nat_eq (map (λ a. a.by) (pending_of kind opening u done))

  -- by a log a place that said Bye has no launch that has not ended, and no completion that is ready
  abbrev pub AreIdle : Kind V O R T → State V O R T → List (Entry V O R T) → Type 0
  AreIdle kind opening log =
      (c : ℕ) → c < place_count opening.setup → has_bye (ran c log) ≡ true
      → unfinished c (state_after kind opening log).live + length (place_of (state_after kind opening log) c).ready ≡ 0

  -- by the log `log` of a trustee that has done so much, each launch that was accepted before its next ticket was `next` and is the first
  -- of its object awaits a reply that was not yet collected
  abbrev pub AreCaughtUp : Kind V O R T → State V O R T → ℕ → List (Entry V O R T) → Type 0
  AreCaughtUp kind opening next done =
      (id : ℕ) (w : Work T) (ws : List (Work T)) → works_at (state_after kind opening done) id ≡ w ∷ ws → w.ticket < next
      → IsWaiting kind opening done id w
