-- What a trustee is between two turns.
use Rattle.std.specs.Prelude.{◌≡◌, ◌≢◌, ℕ, ◌+◌, ◌-◌, ◌^◌, ◌==◌, min, List, [], ◌∷◌, ◌++◌, length, map, filter, slice_get}
use Rattle.std.specs.declared.option.Option.TheVariants.{None, Some}
use Rattle.tm_seq.specs.Kind.{Kind}
use Rattle.tm_batch.specs.declared.message.Name.{Name}
use Rattle.tm_model.specs.declared.entry.Entry.{Entry}
use Rattle.tm_model.specs.declared.entry.Entry.TheVariants.{By, Resume, Sent}
use Rattle.tm_model.specs.Entries.{AreResumes}
use Rattle.tm_model.specs.State.{State, Setup, ids_above}
use Rattle.tm_state.specs.StateView.{StateView}
use Rattle.tm_state.specs.Resuming.{AreHeld}
use Rattle.tm_state.specs.Represents.{Represents, requests_in}
use Rattle.tm_state.specs.Asking.{HaveAllEnded}
use Rattle.tm_pair.specs.Views.{ClientView, hand_of}
use Rattle.tm_pair.specs.Theory.{Theory}
use Rattle.tm_trustee.specs.AboveAt.{IsAbove}
use Rattle.tm_trustee.specs.Awaiting.{AreAwaited, AreIdle}
use Rattle.tm_trustee.specs.Lanes.{IsLane}
use Rattle.tm_trustee.specs.declared.lane.Lane.{Lane}
use Rattle.tm_trustee.specs.declared.stage.Stage.TheVariants.{Before}
use Rattle.tm_trustee.specs.declared.trustee.Trustee.{Trustee}

-- names, by the numbers of their trustees, are those of all objects that a trustee holds above, those of one trustee in their order
abbrev pub AreNested : Setup → List (ℕ × Name) → Type 0
AreNested setup nested = (u : ℕ) → map (λ n. n.1.id) (filter (λ n. n.0 == u) nested) ≡ ids_above setup u

module _ {V O R T : Type 0} where
  -- how many entries of a log are resumes
  abbrev pub resumes_in : List (Entry V O R T) → ℕ
  resumes_in [] = 0
  resumes_in (Resume id ticket event next ∷ es) = 1 + resumes_in es
  resumes_in (By c k q a ∷ es) = resumes_in es
  resumes_in (Sent c room ∷ es) = resumes_in es

  -- what a trustee has done grew by entries none of which is a resume
  abbrev pub GoesOn : List (Entry V O R T) → List (Entry V O R T) → Type 0
  GoesOn old new = (es : List (Entry V O R T)) × (new ≡ old ++ es) × (resumes_in es ≡ 0)

  -- it grew by resumes, and then by entries none of which is one
  abbrev pub GrowsInOrder : List (Entry V O R T) → List (Entry V O R T) → Type 0
  GrowsInOrder old new =
      (es : List (Entry V O R T)) × (more : List (Entry V O R T)) × (new ≡ old ++ (es ++ more)) × AreResumes es × (resumes_in more ≡ 0)

  -- what a trustee has is current: it represents the log of its side and then what was resumed since its last answer
  pub record IsCurrent (kind : Kind V O R T) (opening : State V O R T) (log since : List (Entry V O R T)) (state : StateView V O R T) : Type 0 where
    pub represents : Represents kind opening (log ++ since) state
    pub only : AreResumes since

  -- the lanes of trustees from number u on are what a trustee has that has done so much, by what its sides there stand for
  abbrev pub AreLanes : Kind V O R T → State V O R T → List (Entry V O R T) → ℕ → List (ClientView V O R T) → List (Lane V O R T) → Type 0
  AreLanes kind opening done u ups lanes =
      (i : ℕ) (up : ClientView V O R T) (lane : Lane V O R T) → slice_get ups i ≡ Some up → slice_get lanes i ≡ Some lane
      → IsLane kind opening done (u + i) up lane

  -- no reply that came is left to tell
  abbrev pub AreTold : List (Lane V O R T) → Type 0
  AreTold lanes = (i : ℕ) (lane : Lane V O R T) → slice_get lanes i ≡ Some lane → lane.came.items ≡ []

  -- where a Bye was said above, all below had said theirs
  abbrev pub AreSaid : State V O R T → List (Entry V O R T) → List (Lane V O R T) → Type 0
  AreSaid opening log lanes = (i : ℕ) (lane : Lane V O R T) → slice_get lanes i ≡ Some lane → lane.stage ≢ Before → HaveAllEnded opening log

module _ {V O R T Table Client Owner : Type 0} (theory : Theory V O R T Table Client Owner) where
  -- what a trustee has done: the log of its side, and then what was resumed since its last answer
  abbrev pub done_by : Trustee V Table O R T Client Owner → List (Entry V O R T)
  done_by t = (theory.trustee_view t.side).log ++ t.since.items

  -- what its sides above stand for
  abbrev pub ups_of : Trustee V Table O R T Client Owner → List (ClientView V O R T)
  ups_of t = map theory.client_view t.above.items

  module _ (kind : Kind V O R T) where
    -- it is the trustee of an opening state
    pub record IsServing (opening : State V O R T) (t : Trustee V Table O R T Client Owner) : Type 0 where
      pub number : t.number ≡ opening.setup.number
      pub clients : t.clients ≡ opening.setup.config.clients
      -- it has what it has done leaves, and no batch is in hand
      pub current : IsCurrent kind opening (theory.trustee_view t.side).log t.since.items t.state
      pub free : (c : ℕ) → hand_of (theory.trustee_view t.side) c ≡ None
      -- it has a side above for each greater trustee, and notes how far it is there
      pub sides : t.number + 1 + length t.above.items ≡ opening.setup.config.trustees
      pub above : IsAbove (t.clients + t.number) t.lanes.items (ups_of t)
      pub nested : AreNested opening.setup t.nested.items
      pub held : AreHeld opening.setup t.held.items
      -- its launched work and its lanes are as what it has done says
      pub awaited : AreAwaited kind opening (done_by t)
      pub lanes : AreLanes kind opening (done_by t) (t.number + 1) (ups_of t) t.lanes.items
      pub told : AreTold t.lanes.items
      -- a place that said Bye launched nothing that goes on, and Bye was said above only where all had said theirs
      pub idle : AreIdle kind opening (theory.trustee_view t.side).log
      pub said : AreSaid opening (theory.trustee_view t.side).log t.lanes.items

    -- whatever its opening state, so many requests are in its log, as a `u64` counts them
    abbrev pub TellsRun : Trustee V Table O R T Client Owner → ℕ → Type 0
    TellsRun t n =
        (opening : State V O R T) → IsServing opening t → n ≡ min (requests_in (theory.trustee_view t.side).log) (2 ^ 64 - 1)

    -- in the midst of a turn it is so too, but that replies which came may be left to tell
    pub record IsGoing (opening : State V O R T) (t : Trustee V Table O R T Client Owner) : Type 0 where
      pub number : t.number ≡ opening.setup.number
      pub clients : t.clients ≡ opening.setup.config.clients
      pub current : IsCurrent kind opening (theory.trustee_view t.side).log t.since.items t.state
      pub free : (c : ℕ) → hand_of (theory.trustee_view t.side) c ≡ None
      pub sides : t.number + 1 + length t.above.items ≡ opening.setup.config.trustees
      pub above : IsAbove (t.clients + t.number) t.lanes.items (ups_of t)
      pub nested : AreNested opening.setup t.nested.items
      pub held : AreHeld opening.setup t.held.items
      pub awaited : AreAwaited kind opening (done_by t)
      pub lanes : AreLanes kind opening (done_by t) (t.number + 1) (ups_of t) t.lanes.items
      pub idle : AreIdle kind opening (theory.trustee_view t.side).log
      pub said : AreSaid opening (theory.trustee_view t.side).log t.lanes.items
