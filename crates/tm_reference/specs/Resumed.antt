-- How launched work is resumed, or why it is not.
use Rattle.std.specs.Prelude.{◌≡◌, ℕ, List, [], ◌∷◌, ◌++◌, MatchOption}
use Rattle.std.specs.declared.option.Option.{Option}
use Rattle.tm_seq.specs.Kind.{Kind, IsResume}
use Rattle.tm_seq.specs.declared.kind.Event.{Event}
use Rattle.tm_seq.specs.declared.kind.Next.{Next}
use Rattle.tm_seq.specs.declared.kind.Next.TheVariants.{Ask, Done}
use Rattle.tm_model.specs.declared.entry.Entry.TheVariants.{Resume}
use Rattle.tm_model.specs.State.{Work, Object, Place, State}
use Rattle.tm_model.specs.Serve.{value_resumed, value_advanced, works_resumed, after}
use Rattle.tm_model.specs.Legal.{HasFirst, MayCome}
use Rattle.tm_reference.specs.Parts.{awaits_of}
use Rattle.tm_reference.specs.declared.work.Awaited.{Awaited}
use Rattle.tm_reference.specs.declared.refused.NotResumed.{NotResumed}
use Rattle.tm_reference.specs.declared.refused.NotResumed.TheVariants.{NotLegal, NoMemory}
use Rattle.tm_reference.specs.declared.resumed.Resumed.{Resumed}
use Rattle.tm_reference.specs.declared.resumed.Resumed.TheVariants.{Asked, Ended}
use Rattle.tm_reference.specs.declared.resumed.Advance.{Advance}
use Rattle.tm_reference.specs.declared.resumed.Advance.TheVariants.{Asks, Ends}

-- the first launch waits for this and was launched by that place, if there is a launch
abbrev pub IsFirst : {T : Type 0} → List (Work T) → Option (ℕ × Awaited) → Type 0
IsFirst works r = MatchOption r (works ≡ []) (λ p. HasFirst works (λ w. (w.place ≡ p.0) × (w.awaits ≡ awaits_of p.1)))

module _ {V O R T : Type 0} where
  -- what is told of work under a ticket that goes on as `next`
  abbrev pub Shows : ℕ → Next O T R → Advance V O R T → Type 0
  Shows ticket (Ask u i op task) (Asks t v j q) = (t ≡ ticket) × (v ≡ u) × (j ≡ i) × (q ≡ op)
  Shows ticket (Done r) (Ends t reply) = (t ≡ ticket) × (reply ≡ r)
  Shows _ _ _ = ⊥

  abbrev pub Tells : ℕ → Next O T R → Resumed V O R T → Type 0
  Tells ticket (Ask u i op task) (Asked t v j q) = (t ≡ ticket) × (v ≡ u) × (j ≡ i) × (q ≡ op)
  Tells ticket (Done r) (Ended t) = t ≡ ticket
  Tells _ _ _ = ⊥

  -- an object whose first launch was told an event and goes on as `next`
  abbrev pub advanced : Kind V O R T → Event R → Next O T R → Object V T → Object V T
  advanced kind event next o = record o { value = value_advanced kind o.value o.works event next; works = works_resumed o.works next }

  -- a place to which the first of some launches belongs, which goes on as `next`
  abbrev pub told : Next O T R → List (Work T) → Place V O R T → Place V O R T
  told (Ask _ _ _ _) works p = p
  told (Done r) [] p = p
  told (Done r) (w ∷ ws) p = record p { ready = p.ready ++ record { ticket = w.ticket; reply = r } ∷ [] }

  -- the first launch of an object was told an event
  pub record IsAdvanced (kind : Kind V O R T) (old : Object V T) (event : Event R) (new : Object V T) (shown : Advance V O R T) : Type 0 where
    pub next : Next O T R
    pub lawful : HasFirst old.works (λ w. IsResume kind old.value w.task event (value_resumed kind old.value w.task event next) next)
    pub is : new ≡ advanced kind event next old
    pub shows : HasFirst old.works (λ w. Shows w.ticket next shown)

  -- the first launch of an object was told an event, and its completion is ready at its place where it ended
  pub record IsTold (kind : Kind V O R T) (old : Object V T) (place : Place V O R T) (event : Event R) (new : Object V T) (after : Place V O R T)
      (result : Resumed V O R T) : Type 0 where
    pub next : Next O T R
    pub lawful : HasFirst old.works (λ w. IsResume kind old.value w.task event (value_resumed kind old.value w.task event next) next)
    pub object : new ≡ advanced kind event next old
    pub place_is : after ≡ told next old.works place
    pub tells : HasFirst old.works (λ w. Tells w.ticket next result)

  -- the first launch on an id is resumed with an event, and leaves the state `new`
  abbrev pub IsResumed : Kind V O R T → State V O R T → ℕ → Event R → State V O R T → Resumed V O R T → Type 0
  IsResumed kind s id event new result =
      (ticket : ℕ) × (next : Next O T R) × MayCome kind s (Resume id ticket event next) × (new ≡ after kind s (Resume id ticket event next))
      × Tells ticket next result

  -- the event comes back: no launch on the id may be told it, or there was no memory
  abbrev pub IsNotResumed : Kind V O R T → State V O R T → ℕ → Event R → NotResumed V O R T → Type 0
  IsNotResumed kind s id event (NotLegal back) =
      (back ≡ event) × ((ticket : ℕ) (next : Next O T R) → ¬ MayCome kind s (Resume id ticket event next))
  IsNotResumed kind s id event (NoMemory back) = back ≡ event
