-- Which requests a client accepts, and what it keeps of them.
use Rattle.std.specs.Prelude.{◌≡◌, ℕ, ◌+◌, ◌<◌, ◌≤◌, true, false, slice_get, slice_set, IsSomeAnd}
use Rattle.std.specs.declared.option.Option.TheVariants.{Some}
use Rattle.tm_batch.specs.declared.limits.TheConstants.{WINDOW}
use Rattle.tm_batch.specs.declared.message.Request.{Request}
use Rattle.tm_client.specs.declared.lane.Lane.{Lane}
use Rattle.tm_client.specs.declared.trust.Trust.{Trust}
use Rattle.tm_client.specs.declared.answers.Why.{Why}
use Rattle.tm_client.specs.declared.answers.Why.TheVariants.{NotHeld, WindowFull, Closed, TrustsFull, NoClient}
use Rattle.tm_client.specs.declared.books.Books.{Books}
use Rattle.tm_client.specs.Listing.{hold_of, held_count, held_at, HasHold, Loses}
use Rattle.tm_client.specs.Lanes.{HasAccepted}

module _ {V O R T C D : Type 0} where
  -- the client's list has the trust, which names the client
  abbrev pub IsHeldBy : Books V C D O R T → Trust → Type 0
  IsHeldBy books trust = (trust.client ≡ books.number) × HasHold books.held (hold_of trust.trustee trust.name)

  -- P holds of what a client keeps for trustee t
  abbrev pub At : Books V C D O R T → ℕ → (Lane V C D O R T → Type 0) → Type 0
  At books t P = IsSomeAnd (slice_get books.lanes.items t) P

  abbrev pub IsClosing : Books V C D O R T → ℕ → Type 0
  IsClosing books t = At books t (λ lane. lane.closing ≡ true)

  abbrev pub IsOpen : Books V C D O R T → ℕ → Type 0
  IsOpen books t = At books t (λ lane. lane.closing ≡ false)

  abbrev pub IsFull : Books V C D O R T → ℕ → Type 0
  IsFull books t = At books t (λ lane. lane.counting ≡ WINDOW)

  abbrev pub HasRoom : Books V C D O R T → ℕ → Type 0
  HasRoom books t = At books t (λ lane. lane.counting < WINDOW)

  -- the trusts that the client has and those that may come are as many as it may have
  abbrev pub IsAtMost : Books V C D O R T → Type 0
  IsAtMost books = books.most ≤ held_count books.held + books.coming

  -- why an operation by a trust, or to give it up, is refused: the first of these that holds
  abbrev pub ApplyWhy : Books V C D O R T → Trust → Why → Type 0
  ApplyWhy books trust NotHeld = ¬ (IsHeldBy books trust)
  ApplyWhy books trust Closed = IsHeldBy books trust × IsClosing books trust.trustee
  ApplyWhy books trust WindowFull = IsHeldBy books trust × IsOpen books trust.trustee × IsFull books trust.trustee
  ApplyWhy books trust _ = ⊥

  abbrev pub MayApply : Books V C D O R T → Trust → Type 0
  MayApply books trust = IsHeldBy books trust × IsOpen books trust.trustee × HasRoom books trust.trustee

  -- why a grant to a client of this number is refused
  abbrev pub GrantWhy : Books V C D O R T → Trust → ℕ → Why → Type 0
  GrantWhy books trust to NotHeld = ¬ (IsHeldBy books trust)
  GrantWhy books trust to Closed = IsHeldBy books trust × IsClosing books trust.trustee
  GrantWhy books trust to NoClient = IsHeldBy books trust × IsOpen books trust.trustee × (books.clients ≤ to)
  GrantWhy books trust to WindowFull = IsHeldBy books trust × IsOpen books trust.trustee × (to < books.clients) × IsFull books trust.trustee
  GrantWhy books trust to _ = ⊥

  abbrev pub MayGrant : Books V C D O R T → Trust → ℕ → Type 0
  MayGrant books trust to = IsHeldBy books trust × IsOpen books trust.trustee × (to < books.clients) × HasRoom books trust.trustee

  -- why an entrust at trustee t is refused
  abbrev pub EntrustWhy : Books V C D O R T → ℕ → Why → Type 0
  EntrustWhy books t Closed = IsClosing books t
  EntrustWhy books t TrustsFull = IsOpen books t × IsAtMost books
  EntrustWhy books t WindowFull = IsOpen books t × (¬ (IsAtMost books)) × IsFull books t
  EntrustWhy books t _ = ⊥

  abbrev pub MayEntrust : Books V C D O R T → ℕ → Type 0
  MayEntrust books t = IsOpen books t × (¬ (IsAtMost books)) × HasRoom books t

  -- a client keeps all but its lanes and the number of what may come
  pub record KeepsRest (old new : Books V C D O R T) : Type 0 where
    pub number : new.number ≡ old.number
    pub clients : new.clients ≡ old.clients
    pub most : new.most ≡ old.most
    pub held : new.held ≡ old.held
    pub arrived : new.arrived ≡ old.arrived
    pub gifts : new.gifts ≡ old.gifts

  -- a client took a request with its continuation at trustee t, behind those that wait there; by it so many trusts more may come
  pub record HasAsked (t : ℕ) (q : Request V O R T) (after : C) (more : ℕ) (old new : Books V C D O R T) : Type 0 where
    pub lane : Lane V C D O R T
    pub becomes : Lane V C D O R T
    pub of_lane : slice_get old.lanes.items t ≡ Some lane
    pub accepts : HasAccepted q after lane becomes
    pub lanes : new.lanes.items ≡ slice_set old.lanes.items t becomes
    pub coming : new.coming ≡ old.coming + more
    pub rest : KeepsRest old new

  -- a client took a request by which it gives up a trust, with its continuation, behind those that wait; by it so many trusts more may come.
  -- The trust left the client's list: the hold at the place that the trust tells, where it stood there
  pub record HasGivenUp (trust : Trust) (q : Request V O R T) (after : C) (more : ℕ) (old new : Books V C D O R T) : Type 0 where
    pub lane : Lane V C D O R T
    pub becomes : Lane V C D O R T
    pub of_lane : slice_get old.lanes.items trust.trustee ≡ Some lane
    pub accepts : HasAccepted q after lane becomes
    pub lanes : new.lanes.items ≡ slice_set old.lanes.items trust.trustee becomes
    pub coming : new.coming ≡ old.coming + more
    pub place : ℕ
    pub told : held_at old.held trust.at ≡ Some (hold_of trust.trustee trust.name) → place ≡ trust.at
    pub held : Loses (hold_of trust.trustee trust.name) place old.held new.held
    pub number : new.number ≡ old.number
    pub clients : new.clients ≡ old.clients
    pub most : new.most ≡ old.most
    pub arrived : new.arrived ≡ old.arrived
    pub gifts : new.gifts ≡ old.gifts
