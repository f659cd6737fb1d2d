-- What a turn of a trustee does.
use Rattle.std.specs.Prelude.{◌≡◌, ℕ, ◌+◌, ◌-◌, ◌^◌, ◌<◌, ◌≤◌, min, List, ◌∷◌, ◌++◌, length, All, slice_get}
use Rattle.std.specs.declared.option.Option.TheVariants.{Some}
use Rattle.tm_seq.specs.Kind.{Kind}
use Rattle.tm_model.specs.State.{State, Work, place_count}
use Rattle.tm_model.specs.declared.entry.Entry.{Entry}
use Rattle.tm_model.specs.Entries.{AreResumes}
use Rattle.tm_model.specs.Lists.{IsPrefix}
use Rattle.tm_model.specs.Serve.{state_after}
use Rattle.tm_state.specs.Asking.{HaveAllEnded}
use Rattle.tm_pair.specs.Views.{ClientView, TrusteeView, looks_at}
use Rattle.tm_pair.specs.Theory.{Theory}
use Rattle.tm_trustee.specs.Places.{ServesAll, found_below}
use Rattle.tm_trustee.specs.Above.{IsAt, unsent, ExchangesAt, GoesUp, GoesUpAt, Each, all_moves_up}
use Rattle.tm_trustee.specs.AboveAt.{EachAt}
use Rattle.tm_trustee.specs.Awaiting.{AreCaughtUp, IsWaiting}
use Rattle.tm_trustee.specs.NestedAsks.{works_at}
use Rattle.tm_trustee.specs.Serving.{resumes_in, GrowsInOrder, done_by, ups_of, IsGoing}
use Rattle.tm_trustee.specs.declared.stage.Stage.TheVariants.{Over}
use Rattle.tm_trustee.specs.declared.served.Served.{Served}
use Rattle.tm_trustee.specs.declared.served.Served.TheVariants.{Moved, Quiet, Ended}
use Rattle.tm_trustee.specs.declared.trustee.Trustee.{Trustee}

-- what a turn says, by whether the trustee has ended and by how much was moved
abbrev pub Tells : Served → Type 0 → ℕ → Type 0
Tells Ended ended moved = ended
Tells Quiet ended moved = (¬ ended) × (moved ≡ 0)
Tells (Moved n) ended moved = (¬ ended) × (1 ≤ moved) × (n ≡ moved)

module _ {V O R T : Type 0} where
  -- a trustee has ended: by its log every place has said Bye, and it has collected each greater trustee's answer to its own
  pub record HasEnded (opening : State V O R T) (view : TrusteeView V O R T) (ups : List (ClientView V O R T)) : Type 0 where
    pub below : HaveAllEnded opening view.log
    pub above : All (IsAt Over) ups

-- a trustee keeps what no turn changes: its number, how many clients there are, and the objects that it holds above
pub record KeepsParts {V O R T Table Client Owner : Type 0} (t u : Trustee V Table O R T Client Owner) : Type 0 where
  pub number : u.number ≡ t.number
  pub clients : u.clients ≡ t.clients
  pub nested : u.nested ≡ t.nested

module _ {V O R T Table Client Owner : Type 0} (theory : Theory V O R T Table Client Owner) where
  -- how much a trustee has moved since it was `t`, by how many places it has: the batches that it answered, published and collected, and
  -- the launched work that it resumed
  abbrev pub moved_since : ℕ → Trustee V Table O R T Client Owner → Trustee V Table O R T Client Owner → ℕ
  moved_since places t u =
      found_below places (theory.trustee_view u.side) + (resumes_in (done_by theory u) - resumes_in (done_by theory t))
      + all_moves_up (ups_of theory t) (ups_of theory u)

  -- at each side above a trustee, in a turn from `t` to `u`, looked where a batch is out, else it sent the first of what its work had asked
  abbrev pub ExchangesAll : State V O R T → List Table → List Table → Trustee V Table O R T Client Owner → Trustee V Table O R T Client Owner → Type 0
  ExchangesAll opening old new t u =
      EachAt (λ n before after from to. ExchangesAt theory (unsent opening.setup (done_by theory t) n (theory.client_view from)) before after from to)
      (t.number + 1) old new t.above.items u.above.items

  -- what a turn of a trustee from `t` to `u` did at its sides above: where a batch is out it looked for its answers, else it sent the first
  -- of what its work had asked before the turn; and it says Bye once all below have
  abbrev pub HasGoneUp : List Table → List Table → Trustee V Table O R T Client Owner → Trustee V Table O R T Client Owner → Type 0
  HasGoneUp old new t u =
      (was : Table) → slice_get old t.number ≡ Some was
      → EachAt
      (λ n before after from to.
      GoesUpAt theory (unsent (theory.opening was).setup (done_by theory t) n (theory.client_view from))
      (HaveAllEnded (theory.opening was) (theory.trustee_view u.side).log) before after from to)
      (t.number + 1) old new t.above.items u.above.items

  -- a trustee went on with launched work, from `t` to `u`, by n resumes, after which each launch that is the first of its object awaits the
  -- reply to an ask that is pending
  abbrev pub HasResumed : Kind V O R T → Trustee V Table O R T Client Owner → Trustee V Table O R T Client Owner → ℕ → Type 0
  HasResumed kind t u n =
      (opening : State V O R T) → IsGoing theory kind opening t
      → ((es : List (Entry V O R T)) × (u.since.items ≡ t.since.items ++ es) × AreResumes es × (n ≡ min (length es) (2 ^ 64 - 1)))
      × ((id : ℕ) (w : Work T) (ws : List (Work T)) → works_at (state_after kind opening (done_by theory u)) id ≡ w ∷ ws
      → IsWaiting kind opening (done_by theory u) id w)

  -- a turn of a trustee from `t` to `u`, and of its own table from `was` to `now`, which said `served`
  pub record HasTurned (kind : Kind V O R T) (was now : Table) (t u : Trustee V Table O R T Client Owner) (served : Served) : Type 0 where
    -- it looked once at each place of its table, in order, and answered each batch that it found
    pub serves : ServesAll theory kind was now t.side u.side
    pub looks : (c : ℕ) → c < place_count (theory.opening was).setup
        → (looks_at (theory.trustee_view u.side) c).count ≡ (looks_at (theory.trustee_view t.side) c).count + 1
    -- its log only grows, and what it has done by resumes and then by what it answered: so it looked at the places when no task could go on
    pub log : IsPrefix (theory.trustee_view t.side).log (theory.trustee_view u.side).log
    pub done : GrowsInOrder (done_by theory t) (done_by theory u)
    -- above it looked for answers, or sent the first of what its work had asked, and says Bye once all below have
    pub above : Each
        (λ n from to. GoesUp (unsent (theory.opening was).setup (done_by theory t) n from) (HaveAllEnded (theory.opening was) (theory.trustee_view u.side).log) from to)
        (t.number + 1) (ups_of theory t) (ups_of theory u)
    -- each launch that was accepted before it and is the first of its object awaits a reply that was not collected
    pub caught_up : AreCaughtUp kind (theory.opening was) (state_after kind (theory.opening was) (done_by theory t)).next_ticket (done_by theory u)
    -- what it moved is counted, up to what a `u64` holds, and what it says is exact
    pub moved : u.moved ≡ min (moved_since (place_count (theory.opening was).setup) t u) (2 ^ 64 - 1)
    pub tells : Tells served (HasEnded (theory.opening was) (theory.trustee_view u.side) (ups_of theory u)) u.moved
