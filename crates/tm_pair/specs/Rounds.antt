-- What one round of a batch through a table finds.
use Rattle.std.specs.Prelude.{◌≡◌, ◌≢◌, ℕ, ◌≤◌, true, false, List, [], ◌∷◌, ◌++◌}
use Rattle.std.specs.declared.option.Option.{Option}
use Rattle.std.specs.declared.option.Option.TheVariants.{None, Some}
use Rattle.tm_batch.specs.declared.limits.TheConstants.{MOST_ROOM}
use Rattle.tm_batch.specs.declared.batch.Batch.{Batch}
use Rattle.tm_batch.specs.declared.message.AnswerBatch.{AnswerBatch}
use Rattle.tm_model.specs.declared.entry.Entry.{Entry}
use Rattle.tm_model.specs.declared.entry.Entry.TheVariants.{Sent}
use Rattle.tm_model.specs.State.{State, place_of}
use Rattle.tm_model.specs.Slots.{looked}
use Rattle.tm_model.specs.Ran.{ran}
use Rattle.tm_model.specs.Holds.{launches_in, ended_in}
use Rattle.tm_pair.specs.Views.{ClientView, TrusteeView, hand_of}
use Rattle.tm_pair.specs.Calls.{LooksAt, SeesNothing}
use Rattle.tm_pair.specs.declared.table.Collected.{Collected}
use Rattle.tm_pair.specs.declared.table.Collected.TheVariants.{Answers, Pending, Idle}

module _ {V O R T : Type 0} where
  -- no gift and no completion waits for place c
  pub record NothingWaits (s : State V O R T) (c : ℕ) : Type 0 where
    pub gifts : (place_of s c).gifts ≡ []
    pub ready : (place_of s c).ready ≡ []

  -- a batch of place c that asked nothing and had so much room was answered; the others in hand stay
  pub record AnswersNothing (c room : ℕ) (old new : TrusteeView V O R T) : Type 0 where
    pub most : room ≤ MOST_ROOM
    pub log : new.log ≡ old.log ++ Sent c room ∷ []
    pub hand : hand_of new c ≡ None
    pub others : (d : ℕ) → d ≢ c → hand_of new d ≡ hand_of old d

  -- the trustee looked once at place c: it answered a batch that it found and that asked nothing, and one that asked something is in hand
  abbrev pub AnswersFound : ℕ → Option (Batch V O R T) → TrusteeView V O R T → TrusteeView V O R T → Type 0
  AnswersFound c None old new = SeesNothing c old new
  AnswersFound c (Some b) old new =
      LooksAt c true old new
      × (b.requests.items ≡ [] → AnswersNothing c b.room old new)
      × (b.requests.items ≢ [] → (new.log ≡ old.log) × (hand_of new c ≡ Some (record { requests = b.requests.items; room = b.room }))
      × ((d : ℕ) → d ≢ c → hand_of new d ≡ hand_of old d))

  -- a side asked nothing, and has no answer yet
  pub record AwaitsNothing (old new : ClientView V O R T) : Type 0 where
    pub place : new.place ≡ old.place
    pub sent : new.sent ≡ old.sent
    pub got : new.got ≡ old.got
    pub seen : new.seen ≡ old.seen
    pub out : new.out ≡ Some (record { requests = []; room = 0 })
    pub looks : new.looks ≡ looked false old.looks

  -- a side asked nothing, and a is what it got
  pub record GetsNothing (a : AnswerBatch V O R T) (old new : ClientView V O R T) : Type 0 where
    -- nothing came with it, and no completion where all that the side launched had ended
    pub answers : a.answers.items ≡ []
    pub gifts : a.gifts.items ≡ []
    pub completions : launches_in old.sent ≤ ended_in old.got → a.completions.items ≡ []
    pub place : new.place ≡ old.place
    pub sent : new.sent ≡ old.sent
    pub got : new.got ≡ old.got ++ a ∷ []
    -- the log that it has seen grew by entries of which none is a request of it, and then this batch left
    pub seen : (others : List (Entry V O R T)) × (ran old.place others ≡ []) × (new.seen ≡ old.seen ++ others ++ Sent old.place 0 ∷ [])
    pub out : new.out ≡ None
    pub looks : new.looks ≡ looked true old.looks

  -- what a side found that had nothing out and asked nothing
  abbrev pub FindsNothing : ClientView V O R T → ClientView V O R T → Collected V O R T → Type 0
  FindsNothing old new Idle = ⊥
  FindsNothing old new Pending = AwaitsNothing old new
  FindsNothing old new (Answers a) = GetsNothing a old new
