-- Which answers a trustee may give, and which logs are legal.
use Rattle.std.specs.Prelude.{◌≡◌, ℕ, ◌<◌, ◌≤◌, ◌⊎◌, List, [], ◌∷◌, length, IsTrue, IsFalse}
use Rattle.tm_seq.specs.Kind.{Kind, IsRun, IsResume}
use Rattle.tm_seq.specs.declared.kind.Event.{Event}
use Rattle.tm_seq.specs.declared.kind.Event.TheVariants.{Begin, Reply, NotAbove, NoObject}
use Rattle.tm_batch.specs.declared.limits.TheConstants.{MOST_ROOM, MOST_GIFTS, MOST_HOLDS}
use Rattle.tm_batch.specs.declared.message.Refusal.TheVariants.{ObjectsFull, SerialsSpent}
use Rattle.tm_batch.specs.declared.message.Request.{Request}
use Rattle.tm_batch.specs.declared.message.Request.TheVariants.{Entrust, Apply, Launch, Grant, Release, Reclaim, Bye}
use Rattle.tm_batch.specs.declared.message.Answer.{Answer}
use Rattle.tm_batch.specs.declared.message.Answer.TheVariants.{Entrusted, NotEntrusted, Replied, Launched, TicketsSpent, Granted, Gone, GiftsFull, Released, Reclaimed, Shared, ByeDone}
use Rattle.tm_model.specs.declared.entry.Entry.{Entry}
use Rattle.tm_model.specs.declared.entry.Entry.TheVariants.{By, Resume, Sent}
use Rattle.tm_model.specs.State.{Awaits, Start, AskOf, Work, Setup, Object, State, holds_of, total, place_of, place_count, ids_above, HasObject, IsHeld}
use Rattle.tm_model.specs.Serve.{value_run, value_resumed, after}

module _ {V O R T : Type 0} where
  -- Entrust: full, else spent, else the next id
  abbrev ServesEntrust : State V O R T → V → Answer V O R T → Type 0
  ServesEntrust s v (NotEntrusted ObjectsFull back) = (back ≡ v) × (s.setup.config.objects ≤ length s.live)
  ServesEntrust s v (NotEntrusted SerialsSpent back) =
      (back ≡ v) × (length s.live < s.setup.config.objects) × (s.setup.config.last_id < s.next_id)
  ServesEntrust s v (Entrusted name) =
      (name.id ≡ s.next_id) × (length s.live < s.setup.config.objects) × (s.next_id ≤ s.setup.config.last_id)
  ServesEntrust _ _ _ = ⊥

  -- Apply: a reply that is lawful on the object's value
  abbrev ServesApply : Kind V O R T → State V O R T → ℕ → O → Answer V O R T → Type 0
  ServesApply kind s id op (Replied r) = HasObject s id (λ o. IsRun kind o.value op (value_run kind o.value op r) r)
  ServesApply _ _ _ _ _ = ⊥

  -- Launch: spent, else the next ticket
  abbrev ServesLaunch : State V O R T → T → Answer V O R T → Type 0
  ServesLaunch s task (TicketsSpent back) = (back ≡ task) × (s.setup.config.last_id < s.next_ticket)
  ServesLaunch s task (Launched ticket) = (ticket ≡ s.next_ticket) × (s.next_ticket ≤ s.setup.config.last_id)
  ServesLaunch _ _ _ = ⊥

  -- no further gift of an object may wait for a place
  abbrev pub IsGiftRefused : State V O R T → ℕ → Object V T → Type 0
  IsGiftRefused s d o = (MOST_GIFTS ≤ length (place_of s d).gifts) ⊎ (MOST_HOLDS ≤ holds_of o d)

  -- Grant: closed, else full, else granted
  abbrev ServesGrant : State V O R T → ℕ → ℕ → Answer V O R T → Type 0
  ServesGrant s id d Gone = IsTrue (place_of s d).is_closed
  ServesGrant s id d GiftsFull = IsFalse (place_of s d).is_closed × HasObject s id (IsGiftRefused s d)
  ServesGrant s id d Granted = IsFalse (place_of s d).is_closed × HasObject s id (λ o. ¬ IsGiftRefused s d o)
  ServesGrant _ _ _ _ = ⊥

  -- Reclaim: the value where the total is 1, else shared
  abbrev ServesReclaim : State V O R T → ℕ → Answer V O R T → Type 0
  ServesReclaim s id (Reclaimed v) = HasObject s id (λ o. (total o ≡ 1) × (v ≡ o.value))
  ServesReclaim s id Shared = HasObject s id (λ o. ¬ (total o ≡ 1))
  ServesReclaim _ _ _ = ⊥

  -- `a` may answer the request `q` of place c in a state: an id that is named is live and held by c, a grant is to a client
  abbrev pub Serves : Kind V O R T → State V O R T → ℕ → Request V O R T → Answer V O R T → Type 0
  Serves kind s c (Entrust v) a = ServesEntrust s v a
  Serves kind s c (Apply n op) a = IsHeld s c n.id × ServesApply kind s n.id op a
  Serves kind s c (Launch n task) a = IsHeld s c n.id × ServesLaunch s task a
  Serves kind s c (Grant n d) a = IsHeld s c n.id × (d < s.setup.config.clients) × ServesGrant s n.id d a
  Serves kind s c (Release n) a = IsHeld s c n.id × (a ≡ Released)
  Serves kind s c (Reclaim n) a = IsHeld s c n.id × ServesReclaim s n.id a
  Serves kind s c Bye a = a ≡ ByeDone

-- what launched work may be told next
abbrev pub IsAwaited : {R : Type 0} → Setup → Awaits → Event R → Type 0
IsAwaited setup Start Begin = Unit {0}
IsAwaited setup Start _ = ⊥
IsAwaited setup (AskOf u i) Begin = ⊥
IsAwaited setup (AskOf u i) NotAbove = u ≤ setup.number
IsAwaited setup (AskOf u i) NoObject = (setup.number < u) × (length (ids_above setup u) ≤ i)
IsAwaited setup (AskOf u i) (Reply r) = (setup.number < u) × (i < length (ids_above setup u))

-- there is a first launch, and P holds of it
abbrev pub HasFirst : {T : Type 0} → List (Work T) → (Work T → Type 0) → Type 0
HasFirst [] P = ⊥
HasFirst (w ∷ ws) P = P w

module _ {V O R T : Type 0} where
  -- an entry may come in a state
  abbrev pub MayCome : Kind V O R T → State V O R T → Entry V O R T → Type 0
  MayCome kind s (By c k q a) = (c < place_count s.setup) × (k ≡ (place_of s c).served) × Serves kind s c q a
  MayCome kind s (Resume id ticket event next) =
      HasObject s id (λ o. HasFirst o.works (λ w. (w.ticket ≡ ticket) × IsAwaited s.setup w.awaits event
      × IsResume kind o.value w.task event (value_resumed kind o.value w.task event next) next))
  MayCome kind s (Sent c room) = (c < place_count s.setup) × (room ≤ MOST_ROOM)

  -- each entry of a log may come in the state that the entries before it leave
  abbrev pub IsLegal : Kind V O R T → State V O R T → List (Entry V O R T) → Type 0
  IsLegal kind s [] = Unit {0}
  IsLegal kind s (e ∷ es) = MayCome kind s e × IsLegal kind (after kind s e) es
