-- What a trustee's launched work asks of greater trustees, and how that is tied to what its side there sent and saw.
use Rattle.std.specs.Prelude.{◌≡◌, ℕ, ◌⊎◌, ◌==◌, ◌&&◌, nat_lt, Bool, false, cond, List, [], ◌∷◌, ◌++◌, length, map, drop, slice_index_or}
use Rattle.std.specs.List.{AllByRecursion}
use Rattle.tm_seq.specs.Kind.{Kind}
use Rattle.tm_seq.specs.declared.kind.Event.{Event}
use Rattle.tm_seq.specs.declared.kind.Event.TheVariants.{Begin, Reply, NotAbove, NoObject}
use Rattle.tm_seq.specs.declared.kind.Next.{Next}
use Rattle.tm_seq.specs.declared.kind.Next.TheVariants.{Ask, Done}
use Rattle.tm_batch.specs.declared.message.Request.{Request}
use Rattle.tm_batch.specs.declared.message.Request.TheVariants.{Apply, Bye}
use Rattle.tm_batch.specs.declared.message.Answer.{Answer}
use Rattle.tm_batch.specs.declared.message.Answer.TheVariants.{Replied}
use Rattle.tm_model.specs.declared.entry.Entry.{Entry}
use Rattle.tm_model.specs.declared.entry.Entry.TheVariants.{By, Resume, Sent}
use Rattle.tm_model.specs.State.{Awaits, Start, AskOf, Work, Setup, State, ids_above, object_of}
use Rattle.tm_model.specs.Serve.{works_in, after}
use Rattle.tm_model.specs.Lists.{IsPrefix}
use Rattle.tm_model.specs.Holds.{has_bye}
use Rattle.tm_model.specs.Orderly.{IsOfTrustee}
use Rattle.tm_model.specs.Ran.{answered}
use Rattle.tm_pair.specs.Views.{ClientView}

-- an ask of an object that is held at a greater trustee: the id of the object whose work asks, the ticket of that work, and the id there
-- and the operation that are asked
pub record NestedAsk (O : Type 0) : Type 0 where
  pub by : ℕ
  pub ticket : ℕ
  pub id : ℕ
  pub op : O

-- what an ask asks
abbrev pub target : {O : Type 0} → NestedAsk O → ℕ × O
target a = (a.id, a.op)

-- a reply that launched work was told: its ticket and the reply
pub record ToldReply (R : Type 0) : Type 0 where
  pub ticket : ℕ
  pub reply : R

-- an element of a list
abbrev pub IsAmong : {X : Type 0} → X → List X → Type 0
IsAmong x [] = ⊥
IsAmong x (y ∷ ys) = (y ≡ x) ⊎ IsAmong x ys

-- launched work awaits what trustee u says
abbrev pub is_ask_of : ℕ → Awaits → Bool
is_ask_of u Start = false
is_ask_of u (AskOf v i) = v == u

-- the first of some launches does
abbrev pub asks_at : {T : Type 0} → ℕ → List (Work T) → Bool
asks_at u [] = false
asks_at u (w ∷ ws) = is_ask_of u w.awaits

module _ {O R T : Type 0} where
  -- what a resume asks of trustee u: an object that is held there, or nothing
  abbrev pub ask_of : Setup → ℕ → ℕ → ℕ → Next O T R → List (NestedAsk O)
  ask_of setup u by ticket (Ask v i op task) =
      cond ((v == u) && nat_lt i (length (ids_above setup u)))
      (record { by = by; ticket = ticket; id = slice_index_or (ids_above setup u) i 0; op = op } ∷ []) []
  ask_of setup u by ticket (Done r) = []

module _ {R T : Type 0} where
  -- the reply of trustee u that an event tells the first of some launches
  abbrev pub told_by : ℕ → List (Work T) → ℕ → Event R → List (ToldReply R)
  told_by u ws ticket (Reply r) = cond (asks_at u ws) (record { ticket = ticket; reply = r } ∷ []) []
  told_by u ws ticket Begin = []
  told_by u ws ticket NotAbove = []
  told_by u ws ticket NoObject = []

module _ {V O R T : Type 0} where
  -- what the resumes of a log ask of trustee u, in order
  abbrev pub asks_of : Setup → ℕ → List (Entry V O R T) → List (NestedAsk O)
  asks_of setup u [] = []
  asks_of setup u (Resume id ticket event next ∷ es) = ask_of setup u id ticket next ++ asks_of setup u es
  asks_of setup u (By c k q a ∷ es) = asks_of setup u es
  asks_of setup u (Sent c room ∷ es) = asks_of setup u es

  -- the launches of an id that have not ended, in order
  abbrev pub works_at : State V O R T → ℕ → List (Work T)
  works_at s id = works_in (object_of s.live id)

  -- the replies of trustee u that the resumes of some entries were told, in order, behind what leaves a state
  abbrev pub replies_of : Kind V O R T → State V O R T → ℕ → List (Entry V O R T) → List (ToldReply R)
  replies_of kind s u [] = []
  replies_of kind s u (Resume id ticket event next ∷ es) =
      told_by u (works_at s id) ticket event ++ replies_of kind (after kind s (Resume id ticket event next)) u es
  replies_of kind s u (By c k q a ∷ es) = replies_of kind (after kind s (By c k q a)) u es
  replies_of kind s u (Sent c room ∷ es) = replies_of kind (after kind s (Sent c room)) u es

  -- the asks of trustee u that were not told a reply
  abbrev pub pending_of : Kind V O R T → State V O R T → ℕ → List (Entry V O R T) → List (NestedAsk O)
  pending_of kind opening u log = drop (length (replies_of kind opening u log)) (asks_of opening.setup u log)

  -- the ids and the operations of the applies among some requests
  abbrev pub asked_by : List (Request V O R T) → List (ℕ × O)
  asked_by [] = []
  asked_by (Apply n op ∷ qs) = (n.id, op) ∷ asked_by qs
  asked_by (_ ∷ qs) = asked_by qs

  -- a request is an apply
  abbrev pub IsApply : Request V O R T → Type 0
  IsApply (Apply n op) = Unit {0}
  IsApply _ = ⊥

  -- the replies among some answers
  abbrev pub replied_in : List (Answer V O R T) → List R
  replied_in [] = []
  replied_in (Replied r ∷ answers) = r ∷ replied_in answers
  replied_in (_ ∷ answers) = replied_in answers

  -- an apply of an object of one of some ids
  abbrev pub AppliesAmong : List ℕ → Request V O R T → Type 0
  AppliesAmong ids (Apply n op) = IsAmong n.id ids
  AppliesAmong ids _ = ⊥

  -- all requests but the last are none, which is a Bye
  abbrev pub EndsInBye : List (Request V O R T) → Type 0
  EndsInBye sent = (qs : List (Request V O R T)) × (sent ≡ qs ++ Bye ∷ []) × (has_bye qs ≡ false)

  -- a side sent a front of what was asked and no Bye, or all of it and then a Bye
  abbrev pub HasSent : List (ℕ × O) → List (Request V O R T) → Type 0
  HasSent asks sent =
      ((has_bye sent ≡ false) × IsPrefix (asked_by sent) asks)
      ⊎ ((qs : List (Request V O R T)) × (sent ≡ qs ++ Bye ∷ []) × (has_bye qs ≡ false) × (asked_by qs ≡ asks))

  -- what a trustee has done is tied to its side of the table of trustee u
  pub record IsTied (kind : Kind V O R T) (opening : State V O R T) (done : List (Entry V O R T)) (u : ℕ) (up : ClientView V O R T) : Type 0 where
    -- it sent there a front of what its work asked, in order, or all of it and a Bye, and nothing else
    pub only : AllByRecursion IsOfTrustee up.sent
    pub sent : HasSent (map target (asks_of opening.setup u done)) up.sent
    -- the j-th reply from there was told to the ticket that made the j-th ask
    pub tickets : IsPrefix (map (λ t. t.ticket) (replies_of kind opening u done)) (map (λ a. a.ticket) (asks_of opening.setup u done))
    -- and is the j-th answer to its place in the log that its own side there has seen
    pub replies : IsPrefix (map (λ t. Replied t.reply) (replies_of kind opening u done)) (answered up.place up.seen)
