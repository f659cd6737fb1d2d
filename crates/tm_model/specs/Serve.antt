-- What an entry does to a state.
use Rattle.std.specs.Prelude.{ℕ, ◌+◌, ◌-◌, Bool, true, false, cond, List, [], ◌∷◌, ◌++◌, map, drop, slice_set}
use Rattle.std.specs.declared.option.Option.{Option}
use Rattle.std.specs.declared.option.Option.TheVariants.{None, Some}
use Rattle.tm_seq.specs.Kind.{Kind}
use Rattle.tm_seq.specs.declared.kind.Event.{Event}
use Rattle.tm_seq.specs.declared.kind.Next.{Next}
use Rattle.tm_seq.specs.declared.kind.Next.TheVariants.{Ask, Done}
use Rattle.tm_batch.specs.declared.limits.TheConstants.{MOST_COMPLETIONS}
use Rattle.tm_batch.specs.declared.message.Name.{Name}
use Rattle.tm_batch.specs.declared.message.Request.{Request}
use Rattle.tm_batch.specs.declared.message.Request.TheVariants.{Entrust, Apply, Launch, Grant, Release, Reclaim, Bye}
use Rattle.tm_batch.specs.declared.message.Answer.{Answer}
use Rattle.tm_batch.specs.declared.message.Answer.TheVariants.{Entrusted, Replied, Launched, Granted, Released, Reclaimed, ByeDone}
use Rattle.tm_model.specs.declared.entry.Entry.{Entry}
use Rattle.tm_model.specs.declared.entry.Entry.TheVariants.{By, Resume, Sent}
use Rattle.tm_model.specs.State.{Start, AskOf, Work, Object, State, holds_of, with_holds, change, kept, without, object_of, place_of, with_place, with_live}

module _ {V O R T : Type 0} where
  -- the value after an operation that gave a reply: that of `step`, or as it was for want of memory
  abbrev pub value_run : Kind V O R T → V → O → R → V
  value_run kind v op r = cond (kind.lacks r) v (kind.step v op).0

  -- whether a resume gave an end for want of memory
  abbrev pub is_lacking : Kind V O R T → Next O T R → Bool
  is_lacking kind (Ask _ _ _ _) = false
  is_lacking kind (Done r) = kind.lacks r

  -- the value after a resume: that of `advance`, or as it was for want of memory
  abbrev pub value_resumed : Kind V O R T → V → T → Event R → Next O T R → V
  value_resumed kind v task event next = cond (is_lacking kind next) v (kind.advance v task event).0

-- the unfinished launches after the first of them was resumed: it goes on as the task of its ask, or leaves the list
abbrev pub works_resumed : {O R T : Type 0} → List (Work T) → Next O T R → List (Work T)
works_resumed [] next = []
works_resumed (w ∷ ws) (Ask u i op task) = record w { task = task; awaits = AskOf u i } ∷ ws
works_resumed (w ∷ ws) (Done r) = ws

abbrev pub works_in : {V T : Type 0} → Option (Object V T) → List (Work T)
works_in None = []
works_in (Some o) = o.works

module _ {V O R T : Type 0} where
  abbrev pub entrusted : ℕ → V → Name → State V O R T → State V O R T
  entrusted c v name s = record s {
    next_id = s.next_id + 1;
    live = s.live ++ record { id = name.id; value = v; holds = slice_set (map (λ _. 0) s.places) c 1; works = [] } ∷ [];
  }

  abbrev pub launched : ℕ → ℕ → T → ℕ → State V O R T → State V O R T
  launched c id task ticket s = record s {
    next_ticket = s.next_ticket + 1;
    live = change id (λ o. record o { works = o.works ++ record { place = c; ticket = ticket; task = task; awaits = Start } ∷ [] }) s.live;
  }

  abbrev pub granted : Name → ℕ → State V O R T → State V O R T
  granted n d s =
      with_place d (let p = place_of s d in record p { gifts = p.gifts ++ n ∷ [] })
      (with_live (change n.id (λ o. with_holds d (holds_of o d + 1) o) s.live) s)

  abbrev pub released : ℕ → ℕ → State V O R T → State V O R T
  released c id s = with_live (kept (change id (λ o. with_holds c (holds_of o c - 1) o) s.live)) s

  abbrev pub closed : ℕ → State V O R T → State V O R T
  closed c s =
      with_place c (let p = place_of s c in record p { is_closed = true; gifts = [] })
      (with_live (kept (map (λ o. with_holds c 0 o) s.live)) s)

  -- the state after a request of place c got an answer: any pair that is not named changes nothing
  abbrev pub served : Kind V O R T → ℕ → Request V O R T → Answer V O R T → State V O R T → State V O R T
  served kind c (Entrust v) (Entrusted name) s = entrusted c v name s
  served kind c (Apply n op) (Replied r) s = with_live (change n.id (λ o. record o { value = value_run kind o.value op r }) s.live) s
  served kind c (Launch n task) (Launched ticket) s = launched c n.id task ticket s
  served kind c (Grant n d) Granted s = granted n d s
  served kind c (Release n) Released s = released c n.id s
  served kind c (Reclaim n) (Reclaimed v) s = with_live (without n.id s.live) s
  served kind c Bye ByeDone s = closed c s
  served _ _ _ _ s = s

  -- one more request of place c was run
  abbrev pub counted : ℕ → State V O R T → State V O R T
  counted c s = with_place c (let p = place_of s c in record p { served = p.served + 1 }) s

  -- the completion of the first of some launches is ready for its place, where it is done
  abbrev pub completed : List (Work T) → ℕ → Next O T R → State V O R T → State V O R T
  completed (w ∷ ws) ticket (Done r) s =
      with_place w.place (let p = place_of s w.place in record p { ready = p.ready ++ record { ticket = ticket; reply = r } ∷ [] }) s
  completed _ _ _ s = s

  -- the value of an object after its first launch was resumed
  abbrev pub value_advanced : Kind V O R T → V → List (Work T) → Event R → Next O T R → V
  value_advanced kind v [] event next = v
  value_advanced kind v (w ∷ ws) event next = value_resumed kind v w.task event next

  -- the state after the first launch of an object was resumed
  abbrev pub resumed : Kind V O R T → ℕ → ℕ → Event R → Next O T R → State V O R T → State V O R T
  resumed kind id ticket event next s =
      completed (works_in (object_of s.live id)) ticket next
      (with_live
      (kept (change id (λ o. record o { value = value_advanced kind o.value o.works event next; works = works_resumed o.works next }) s.live))
      s)

  -- the state after the gifts and completions that waited longest for place c left
  abbrev pub sent_off : ℕ → ℕ → State V O R T → State V O R T
  sent_off c room s = with_place c (let p = place_of s c in record p { gifts = drop room p.gifts; ready = drop MOST_COMPLETIONS p.ready }) s

  -- the state after an entry
  abbrev pub after : Kind V O R T → State V O R T → Entry V O R T → State V O R T
  after kind s (By c k q a) = counted c (served kind c q a s)
  after kind s (Resume id ticket event next) = resumed kind id ticket event next s
  after kind s (Sent c room) = sent_off c room s

  -- the state that a log leaves
  abbrev pub state_after : Kind V O R T → State V O R T → List (Entry V O R T) → State V O R T
  state_after kind s [] = s
  state_after kind s (e ∷ es) = state_after kind (after kind s e) es
