-- The entries by which a log grows at an answer.
use Rattle.std.specs.Prelude.{ℕ, ◌+◌, List, [], ◌∷◌, ◌++◌, length}
use Rattle.tm_batch.specs.declared.message.Request.{Request}
use Rattle.tm_batch.specs.declared.message.Answer.{Answer}
use Rattle.tm_model.specs.declared.entry.Entry.{Entry}
use Rattle.tm_model.specs.declared.entry.Entry.TheVariants.{By, Resume, Sent}
use Rattle.tm_model.specs.Ran.{ran}

module _ {V O R T : Type 0} where
  -- the entries of some requests of place c with the answers of the same positions, numbered from k
  abbrev pub entries_by : ℕ → ℕ → List (Request V O R T) → List (Answer V O R T) → List (Entry V O R T)
  entries_by c k [] answers = []
  entries_by c k (q ∷ qs) [] = []
  entries_by c k (q ∷ qs) (a ∷ answers) = By c k q a ∷ entries_by c (k + 1) qs answers

  -- entries are resumes alone
  abbrev pub AreResumes : List (Entry V O R T) → Type 0
  AreResumes [] = Unit {0}
  AreResumes (Resume id ticket event next ∷ es) = AreResumes es
  AreResumes (By c k q a ∷ es) = ⊥
  AreResumes (Sent c room ∷ es) = ⊥

  -- the entries of the batch b of place c behind a log, with its answers
  abbrev pub batch_entries :
      List (Entry V O R T) → ℕ → List (Request V O R T) → ℕ → List (Answer V O R T) → List (Entry V O R T)
  batch_entries log c b room answers = entries_by c (length (ran c log)) b answers ++ Sent c room ∷ []

  -- what an answer adds to a log: the resumes since the last answer, and the entries of the batch
  abbrev pub added :
      List (Entry V O R T) → List (Entry V O R T) → ℕ → List (Request V O R T) → ℕ → List (Answer V O R T) → List (Entry V O R T)
  added log resumes c b room answers = resumes ++ batch_entries log c b room answers
