-- What a trustee does at the places of its table.
use Rattle.std.specs.Prelude.{◌≡◌, ℕ, zero, suc, ◌+◌, ◌⊎◌, cond, List}
use Rattle.std.specs.declared.option.Option.TheVariants.{None, Some}
use Rattle.tm_seq.specs.Kind.{Kind}
use Rattle.tm_batch.specs.declared.batch.Batch.{Batch}
use Rattle.tm_batch.specs.declared.message.AnswerBatch.{AnswerBatch}
use Rattle.tm_model.specs.declared.entry.Entry.{Entry}
use Rattle.tm_model.specs.Entries.{AreResumes}
use Rattle.tm_model.specs.State.{State, place_count}
use Rattle.tm_pair.specs.Views.{TrusteeView, looks_at}
use Rattle.tm_pair.specs.Calls.{SeesNothing, Takes, MayAnswer, HasAnswered}
use Rattle.tm_pair.specs.Moves.{answer_of}
use Rattle.tm_pair.specs.Theory.{Theory, KeepsClients}
use Rattle.tm_pair.specs.declared.moves.Move.TheVariants.{See}

-- over any table and its trustee's side, by the state in which it opened
module _ {V O R T Table Client Owner : Type 0} (theory : Theory V O R T Table Client Owner) (kind : Kind V O R T) (opening : State V O R T) where
  -- a trustee looked at place c, and found nothing
  pub record PassesPlace (c : ℕ) (was now : Table) (old new : Owner) : Type 0 where
    pub sees : SeesNothing c (theory.trustee_view old) (theory.trustee_view new)
    pub saw : theory.Did (See c None) was now
    pub keeps : KeepsClients theory was now new

  -- it answered the batch of place c in hand by legal entries, behind what was resumed since its last answer
  pub record HasReplied (c : ℕ) (was now : Table) (old new : Owner) : Type 0 where
    pub resumes : List (Entry V O R T)
    pub answers : AnswerBatch V O R T
    pub only : AreResumes resumes
    pub may : MayAnswer kind opening c resumes answers (theory.trustee_view old)
    pub answered : HasAnswered c resumes answers (theory.trustee_view old) (theory.trustee_view new)
    pub did : theory.Did (answer_of c resumes answers) was now
    pub keeps : KeepsClients theory was now new

  -- it found a batch at place c, and answered it
  pub record AnswersPlace (c : ℕ) (was now : Table) (old new : Owner) : Type 0 where
    pub batch : Batch V O R T
    -- the table and its side between the look and the answer
    pub between : Table
    pub mid : Owner
    pub takes : Takes kind opening c batch.requests.items batch.room (theory.trustee_view old) (theory.trustee_view mid)
    pub saw : theory.Did (See c (Some batch)) was between
    pub keeps : KeepsClients theory was between mid
    pub replied : HasReplied c between now mid new

  -- it did one of the two
  abbrev pub ServesPlace : ℕ → Table → Table → Owner → Owner → Type 0
  ServesPlace c was now old new = PassesPlace c was now old new ⊎ AnswersPlace c was now old new

  -- it served the places below n, one after another
  unfoldable pub ServesBelow : ℕ → Table → Table → Owner → Owner → Type 0
  ServesBelow zero was now old new = (now ≡ was) × (new ≡ old)
  ServesBelow (suc n) was now old new =
      (between : Table) × (mid : Owner) × ServesBelow n was between old mid × theory.HasTrustee between mid
      × ServesPlace n between now mid new

module _ {V O R T Table Client Owner : Type 0} (theory : Theory V O R T Table Client Owner) (kind : Kind V O R T) where
  -- it served all places of its table, in order
  abbrev pub ServesAll : Table → Table → Owner → Owner → Type 0
  ServesAll was now old new = ServesBelow theory kind (theory.opening was) (place_count (theory.opening was).setup) was now old new

module _ {V O R T : Type 0} where
  -- at how many places below n the last look found a batch
  unfoldable pub found_below : ℕ → TrusteeView V O R T → ℕ
  found_below zero view = 0
  found_below (suc n) view = found_below n view + cond (looks_at view n).found 1 0
