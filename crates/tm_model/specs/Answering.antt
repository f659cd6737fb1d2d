-- How a trustee may answer.
use Rattle.std.specs.Prelude.{◌≡◌, ℕ, ◌<◌, List, ◌++◌, length}
use Rattle.tm_seq.specs.Kind.{Kind}
use Rattle.tm_batch.specs.declared.message.Request.{Request}
use Rattle.tm_batch.specs.declared.message.AnswerBatch.{AnswerBatch}
use Rattle.tm_model.specs.declared.entry.Entry.{Entry}
use Rattle.tm_model.specs.Lists.{EndsIn}
use Rattle.tm_model.specs.State.{State}
use Rattle.tm_model.specs.Legal.{IsLegal}
use Rattle.tm_model.specs.Slots.{slot_of, Taken, answer}
use Rattle.tm_model.specs.Entries.{AreResumes, added}
use Rattle.tm_model.specs.Batches.{batches}
use Rattle.tm_model.specs.Good.{FullCore}

module _ {V O R T : Type 0} where
  -- a log may grow by some resumes and by the batch b of place c, answered by the answer batch a
  pub record MayGrow (kind : Kind V O R T) (opening : State V O R T) (log resumes : List (Entry V O R T))
      (c : ℕ) (b : List (Request V O R T)) (room : ℕ) (a : AnswerBatch V O R T) : Type 0 where
    pub only : AreResumes resumes
    -- there are as many answers as requests
    pub as_many : length a.answers.items ≡ length b
    pub is_legal : IsLegal kind opening (log ++ added log resumes c b room a.answers.items)
    -- a is the last answer batch that the longer log has for the place
    pub last : EndsIn (batches kind opening c (log ++ added log resumes c b room a.answers.items)) a

  -- the trustee may answer place c by the answer batch a, where its log grows by some resumes first
  pub record MayAnswerWith (kind : Kind V O R T) (opening : State V O R T) (core : FullCore V O R T) (c : ℕ)
      (b : List (Request V O R T)) (room : ℕ) (resumes : List (Entry V O R T)) (a : AnswerBatch V O R T) : Type 0 where
    pub in_range : c < length core.slots
    pub is_taken : (slot_of core c).box ≡ Taken b room
    pub grows : MayGrow kind opening core.log resumes c b room a

  -- the trustee answers place c by the answer batch a, and its log grows by the resumes and the entries of the batch
  abbrev pub answer_with :
      ℕ → List (Request V O R T) → ℕ → List (Entry V O R T) → AnswerBatch V O R T → FullCore V O R T → FullCore V O R T
  answer_with c b room resumes a core = answer c a (added core.log resumes c b room a.answers.items) room core
