-- What each call of a table does to what its side stands for.
use Rattle.std.specs.Prelude.{◌≡◌, ℕ, ◌≤◌, Bool, true, false, List, [], ◌∷◌, ◌++◌, length, slice_set, IsSomeAnd, MatchOption}
use Rattle.std.specs.declared.option.Option.TheVariants.{None, Some}
use Rattle.tm_seq.specs.Kind.{Kind}
use Rattle.std.specs.declared.option.Option.{Option}
use Rattle.tm_batch.specs.declared.limits.TheConstants.{MOST_COMPLETIONS}
use Rattle.tm_batch.specs.declared.batch.Batch.{Batch}
use Rattle.tm_batch.specs.declared.message.Request.{Request}
use Rattle.tm_batch.specs.declared.message.AnswerBatch.{AnswerBatch}
use Rattle.tm_model.specs.declared.entry.Entry.{Entry}
use Rattle.tm_model.specs.State.{State}
use Rattle.tm_model.specs.Slots.{looked}
use Rattle.tm_model.specs.Entries.{batch_entries, added}
use Rattle.tm_model.specs.Orderly.{IsOrderly}
use Rattle.tm_model.specs.Answering.{MayGrow}
use Rattle.tm_model.specs.Laws.{IsPromised}
use Rattle.tm_pair.specs.Views.{BatchView, ClientView, TrusteeView, hand_of, looks_at}
use Rattle.tm_pair.specs.declared.table.Collected.{Collected}
use Rattle.tm_pair.specs.declared.table.Collected.TheVariants.{Answers, Pending, Idle}

module _ {V O R T : Type 0} where
  -- a side may be given the batch b: where nothing is out, b is orderly after what the side sent and got
  abbrev pub MaySend : State V O R T → ClientView V O R T → List (Request V O R T) → Type 0
  MaySend opening view b = view.out ≡ None → IsOrderly opening view.place view.sent view.got b

  -- a side published the batch b
  pub record Publishes (b : List (Request V O R T)) (room : ℕ) (old new : ClientView V O R T) : Type 0 where
    pub place : new.place ≡ old.place
    -- its sent list grew by the batch, which is out
    pub sent : new.sent ≡ old.sent ++ b
    pub out : new.out ≡ Some (record { requests = b; room = room })
    pub got : new.got ≡ old.got
    pub seen : new.seen ≡ old.seen
    pub looks : new.looks ≡ old.looks

  -- nothing is out, and a side did not look
  pub record IsIdle (old new : ClientView V O R T) : Type 0 where
    pub out : old.out ≡ None
    pub kept : new ≡ old

  -- a side looked for the answers to its batch that is out, and found nothing
  pub record IsPending (old new : ClientView V O R T) : Type 0 where
    pub place : new.place ≡ old.place
    pub sent : new.sent ≡ old.sent
    pub out : (batch : BatchView V O R T) × (old.out ≡ Some batch) × (new.out ≡ Some batch)
    pub got : new.got ≡ old.got
    pub seen : new.seen ≡ old.seen
    pub looks : new.looks ≡ looked false old.looks

  -- the answers a came to the batch b of a side, and the log that it has seen grew by other entries and then by those of b
  pub record AreAnswers (b : List (Request V O R T)) (room : ℕ) (a : AnswerBatch V O R T) (old new : ClientView V O R T) : Type 0 where
    -- b is the batch that was out
    pub out : old.out ≡ Some (record { requests = b; room = room })
    -- there are as many answers as requests, and at most as many gifts as the batch had room for
    pub answers : length a.answers.items ≡ length b
    pub gifts : length a.gifts.items ≤ room
    pub completions : length a.completions.items ≤ MOST_COMPLETIONS
    pub seen : (others : List (Entry V O R T))
        × (new.seen ≡ old.seen ++ others ++ batch_entries (old.seen ++ others) old.place b room a.answers.items)

  -- a side looked, found the answers a and took them
  pub record Gets (a : AnswerBatch V O R T) (old new : ClientView V O R T) : Type 0 where
    pub place : new.place ≡ old.place
    pub sent : new.sent ≡ old.sent
    pub out : new.out ≡ None
    pub got : new.got ≡ old.got ++ a ∷ []
    pub answers : (b : List (Request V O R T)) × (room : ℕ) × AreAnswers b room a old new
    pub looks : new.looks ≡ looked true old.looks

  -- what a collect gave says what it did
  abbrev pub Collects : ClientView V O R T → ClientView V O R T → Collected V O R T → Type 0
  Collects old new Idle = IsIdle old new
  Collects old new Pending = IsPending old new
  Collects old new (Answers a) = Gets a old new

  -- `idle` where a side did not look; `looked` of the answers that it found, or of none, where it did
  abbrev pub OnLook : Collected V O R T → Type 0 → (Option (AnswerBatch V O R T) → Type 0) → Type 0
  OnLook Idle idle looked = idle
  OnLook Pending idle looked = looked None
  OnLook (Answers a) idle looked = looked (Some a)

  -- the trustee looked once at place c
  abbrev pub LooksAt : ℕ → Bool → TrusteeView V O R T → TrusteeView V O R T → Type 0
  LooksAt c found old new = new.looks ≡ slice_set old.looks c (looked found (looks_at old c))

  -- the trustee looked at place c, and found nothing
  pub record SeesNothing (c : ℕ) (old new : TrusteeView V O R T) : Type 0 where
    pub log : new.log ≡ old.log
    pub hands : new.hands ≡ old.hands
    pub looks : LooksAt c false old new

  -- the trustee looked at place c, found the batch b and took it in hand
  pub record Takes (kind : Kind V O R T) (opening : State V O R T) (c : ℕ) (b : List (Request V O R T)) (room : ℕ)
      (old new : TrusteeView V O R T) : Type 0 where
    pub log : new.log ≡ old.log
    pub hands : new.hands ≡ slice_set old.hands c (Some (record { requests = b; room = room }))
    pub looks : LooksAt c true old new
    pub promised : IsPromised kind opening old.log c b

  -- what a look of the trustee at place c gave says what it did
  abbrev pub Sees : Kind V O R T → State V O R T → ℕ → Option (Batch V O R T) → TrusteeView V O R T → TrusteeView V O R T → Type 0
  Sees kind opening c given old new = MatchOption given (SeesNothing c old new) (λ b. Takes kind opening c b.requests.items b.room old new)

  -- the batch of place c is in hand, and the log may grow by some resumes and by it, answered by a
  abbrev pub MayAnswer : Kind V O R T → State V O R T → ℕ → List (Entry V O R T) → AnswerBatch V O R T → TrusteeView V O R T → Type 0
  MayAnswer kind opening c resumes a view =
      IsSomeAnd (hand_of view c) (λ hand. MayGrow kind opening view.log resumes c hand.requests hand.room a)

  -- the trustee answered its batch of place c in hand
  pub record HasAnswered (c : ℕ) (resumes : List (Entry V O R T)) (a : AnswerBatch V O R T) (old new : TrusteeView V O R T) : Type 0 where
    -- its log grew by the resumes, and then by the entries of the batch
    pub log : IsSomeAnd (hand_of old c) (λ hand. new.log ≡ old.log ++ added old.log resumes c hand.requests hand.room a.answers.items)
    pub hands : new.hands ≡ slice_set old.hands c None
    pub looks : new.looks ≡ old.looks
