-- What launched work does when it goes on.
use Rattle.std.specs.Prelude.{◌≡◌, ℕ, ◌+◌, ◌-◌, ◌^◌, ◌<◌, ◌≤◌, ◌⊎◌, min, List, [], ◌∷◌, ◌++◌, length, slice_index_or, slice_set}
use Rattle.std.specs.List.{AllByRecursion}
use Rattle.std.specs.declared.option.Option.{Option}
use Rattle.std.specs.declared.option.Option.TheVariants.{None, Some}
use Rattle.tm_seq.specs.Kind.{Kind, IsResume}
use Rattle.tm_seq.specs.declared.kind.Event.{Event}
use Rattle.tm_seq.specs.declared.kind.Event.TheVariants.{Begin, Reply, NotAbove, NoObject}
use Rattle.tm_seq.specs.declared.kind.Next.{Next}
use Rattle.tm_seq.specs.declared.kind.Next.TheVariants.{Ask, Done}
use Rattle.tm_batch.specs.declared.message.Completion.{Completion}
use Rattle.tm_latch.specs.declared.ticket.Ticket.{Ticket}
use Rattle.tm_latch.specs.Tickets.{with_first, without_first}
use Rattle.tm_model.specs.declared.entry.Entry.{Entry}
use Rattle.tm_model.specs.declared.entry.Entry.TheVariants.{By, Resume, Sent}
use Rattle.tm_model.specs.State.{AskOf, State, Setup, ids_above}
use Rattle.tm_model.specs.Serve.{state_after}
use Rattle.tm_model.specs.Legal.{HasFirst}
use Rattle.tm_objects.specs.Live.{HasLive}
use Rattle.tm_state.specs.Launches.{Pending, AwaitsReply}
use Rattle.tm_state.specs.StateView.{StateView}
use Rattle.tm_state.specs.Represents.{Represents}
use Rattle.tm_objects.specs.Stock.{Stock, finished}
use Rattle.tm_state.specs.declared.made.Made.{Made}
use Rattle.tm_state.specs.declared.resumed.Resumed.{Resumed}
use Rattle.tm_state.specs.declared.resumed.Resumed.TheVariants.{Asked, Ended}

-- so many objects a trustee holds at each trustee, none at one that is not above it
abbrev pub AreHeld : Setup → List ℕ → Type 0
AreHeld setup held = (u : ℕ) → slice_index_or held u 0 ≡ length (ids_above setup u)

-- object x of those that trustee `number` holds at trustee u is one above it
abbrev pub IsHeldAbove : ℕ → List ℕ → ℕ → ℕ → Type 0
IsHeldAbove number held u x = (number < u) × (x < slice_index_or held u 0)

-- what a task that asks object x of trustee u is told at once: nothing, where it is held above
abbrev pub IsToldAtOnce : {R : Type 0} → ℕ → List ℕ → ℕ → ℕ → Option (Event R) → Type 0
IsToldAtOnce number held u x None = IsHeldAbove number held u x
IsToldAtOnce number held u x (Some Begin) = ⊥
IsToldAtOnce number held u x (Some (Reply r)) = ⊥
IsToldAtOnce number held u x (Some NotAbove) = u ≤ number
IsToldAtOnce number held u x (Some NoObject) = (number < u) × (slice_index_or held u 0 ≤ x)

-- the entry of a resume by which a task was told the first of some events
abbrev pub entry_of : {V O R T : Type 0} → ℕ → ℕ → List (Event R) → Next O T R → List (Entry V O R T)
entry_of id ticket [] next = []
entry_of id ticket (event ∷ _) next = Resume id ticket event next ∷ []

module _ {V O R T : Type 0} where
  -- a task on a value is told an event, and goes on until it asks an object that is held above, or ends: it makes these entries of its
  -- object's id and its ticket, each lawful on the value that the one before it left. An ask of a trustee that is not above is told so at
  -- once, and so is one of an object that is not held there. The value is `w` in the end, and `next` is what the task does last.
  abbrev pub Continues :
      Kind V O R T → ℕ → List ℕ → ℕ → ℕ → V → T → Event R → List (Entry V O R T) → V → Next O T R → Type 0
  Continues kind number held id ticket v task event [] w next = ⊥
  Continues kind number held id ticket v task event (By c k q a ∷ es) w next = ⊥
  Continues kind number held id ticket v task event (Sent c room ∷ es) w next = ⊥
  Continues kind number held id ticket v task event (Resume i t e (Done r) ∷ es) w next =
      (i ≡ id) × (t ≡ ticket) × (e ≡ event) × IsResume kind v task event w (Done r) × (es ≡ []) × (next ≡ Done r)
  Continues kind number held id ticket v task event (Resume i t e (Ask u x op after) ∷ es) w next =
      (between : V) × (i ≡ id) × (t ≡ ticket) × (e ≡ event) × IsResume kind v task event between (Ask u x op after)
      × (((es ≡ []) × (w ≡ between) × (next ≡ Ask u x op after) × IsHeldAbove number held u x)
      ⊎ ((u ≤ number) × Continues kind number held id ticket between after NotAbove es w next)
      ⊎ ((number < u) × (slice_index_or held u 0 ≤ x) × Continues kind number held id ticket between after NoObject es w next))

  -- what the launch of an id, a ticket and a place did last: it goes on as the task of an ask, and is handed out with the ask; or it has
  -- ended, and its completion is the last that is ready for the place
  abbrev pub Settles :
      ℕ → ℕ → ℕ → Next O T R → Resumed V O R T → List (Ticket (Pending T)) → List (Ticket (Pending T))
      → List (List (Completion V O R T)) → List (List (Completion V O R T)) → Type 0
  Settles id ticket c (Ask u x op task) result launched launched_new ready ready_new =
      let on : Ticket (Pending T) = record { id = id; number = ticket; task = record { place = c; task = task; awaits = AskOf u x } } in
      (result ≡ Asked u x op on) × (launched_new ≡ with_first id on.task launched) × (ready_new ≡ ready)
  Settles id ticket c (Done r) result launched launched_new ready ready_new =
      (result ≡ Ended) × (launched_new ≡ without_first id launched)
      × (ready_new ≡ slice_set ready c (slice_index_or ready c [] ++ record { ticket = ticket; reply = r } ∷ []))

  -- the objects then: the launch counts no more where it has ended
  abbrev pub Finishes : ℕ → Next O T R → Stock V → Stock V → Type 0
  Finishes id (Ask u x op task) objects objects_new = objects_new ≡ objects
  Finishes id (Done r) objects objects_new = objects_new ≡ finished id objects

  -- some entries were made, and counted up to what a `u64` holds
  pub record Makes (es : List (Entry V O R T)) (old new : Made V O R T) : Type 0 where
    pub entries : new.entries.items ≡ old.entries.items ++ es
    pub count : new.count ≡ min (old.count + length es) (2 ^ 64 - 1)

  -- the launch l was told an event and went on, by some entries, on the value of its object
  abbrev pub HasGoneOn :
      Kind V O R T → List ℕ → Ticket (Pending T) → Event R → List (Entry V O R T) → Resumed V O R T → StateView V O R T → StateView V O R T → Type 0
  HasGoneOn kind held l event es result old new =
      (v : V) × (w : V) × (next : Next O T R) × HasLive old.stock.live l.id (λ o. v ≡ o.value)
      × Continues kind old.number held l.id l.number v l.task.task event es w next
      × Settles l.id l.number l.task.place next result old.launched new.launched old.ready new.ready

  -- a trustee has what its log leaves, and holds so many objects at each trustee
  abbrev pub MayGoOn : Kind V O R T → List ℕ → List (Entry V O R T) → State V O R T → List (Entry V O R T) → StateView V O R T → Type 0
  MayGoOn kind held since opening log h = Represents kind opening (log ++ since) h × AreHeld opening.setup held

  abbrev pub IsResumable : Kind V O R T → List ℕ → List (Entry V O R T) → StateView V O R T → Type 0
  IsResumable kind held since h = (opening : State V O R T) × (log : List (Entry V O R T)) × MayGoOn kind held since opening log h

  -- whatever log it represents, with `since` behind it, it represents that log with `more` behind it then
  abbrev pub KeepsOn :
      Kind V O R T → List ℕ → List (Entry V O R T) → List (Entry V O R T) → StateView V O R T → StateView V O R T → Type 0
  KeepsOn kind held since more old new =
      (opening : State V O R T) (log : List (Entry V O R T)) → MayGoOn kind held since opening log old → Represents kind opening (log ++ more) new

  -- whatever log a trustee represents, each launch that is the first of its object awaits a reply from above
  abbrev pub AllAwait : Kind V O R T → StateView V O R T → Type 0
  AllAwait kind h =
      (opening : State V O R T) (log : List (Entry V O R T)) → Represents kind opening log h
      → AllByRecursion (λ o. o.works ≡ [] ⊎ HasFirst o.works (λ w. AwaitsReply opening.setup w.awaits)) (state_after kind opening log).live
