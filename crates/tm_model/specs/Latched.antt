-- Launched work on one object does not overlap.
use Rattle.std.specs.Prelude.{◌≡◌, ℕ, ◌==◌, ◌⊎◌, cond, List, [], ◌∷◌, ◌++◌}
use Rattle.std.specs.List.{AllByRecursion}
use Rattle.tm_seq.specs.declared.kind.Event.{Event}
use Rattle.tm_seq.specs.declared.kind.Event.TheVariants.{Begin, Reply, NotAbove, NoObject}
use Rattle.tm_seq.specs.declared.kind.Next.{Next}
use Rattle.tm_seq.specs.declared.kind.Next.TheVariants.{Ask, Done}
use Rattle.tm_batch.specs.declared.message.Request.TheVariants.{Launch}
use Rattle.tm_batch.specs.declared.message.Answer.TheVariants.{Launched}
use Rattle.tm_model.specs.declared.entry.Entry.{Entry}
use Rattle.tm_model.specs.declared.entry.Entry.TheVariants.{By, Resume}

-- a resume of one object: its ticket, what it was told, and what it does next
pub record Resumption (O R T : Type 0) : Type 0 where
  pub ticket : ℕ
  pub event : Event R
  pub next : Next O T R

abbrev pub IsBegin : {R : Type 0} → Event R → Type 0
IsBegin Begin = Unit {0}
IsBegin (Reply _) = ⊥
IsBegin NotAbove = ⊥
IsBegin NoObject = ⊥

abbrev pub IsDone : {O R T : Type 0} → Next O T R → Type 0
IsDone (Ask _ _ _ _) = ⊥
IsDone (Done _) = Unit {0}

module _ {V O R T : Type 0} where
  -- the tickets of the launches on an object, in order
  abbrev pub tickets_of : ℕ → List (Entry V O R T) → List ℕ
  tickets_of id [] = []
  tickets_of id (By c k (Launch n task) (Launched ticket) ∷ es) = cond (n.id == id) (ticket ∷ tickets_of id es) (tickets_of id es)
  tickets_of id (_ ∷ es) = tickets_of id es

  -- the resumes of an object, in order
  abbrev pub resumes_of : ℕ → List (Entry V O R T) → List (Resumption O R T)
  resumes_of id [] = []
  resumes_of id (Resume i ticket event next ∷ es) =
      cond (i == id) (record { ticket = ticket; event = event; next = next } ∷ resumes_of id es) (resumes_of id es)
  resumes_of id (_ ∷ es) = resumes_of id es

module _ {O R T : Type 0} where
  -- resumes of one ticket, of which the first alone is its begin
  pub record IsFromBegin (ticket : ℕ) (run : List (Resumption O R T)) : Type 0 where
    pub one_ticket : AllByRecursion (λ r. r.ticket ≡ ticket) run
    pub begin : (first : Resumption O R T) × (others : List (Resumption O R T))
        × (run ≡ first ∷ others) × IsBegin first.event × AllByRecursion (λ r. ¬ IsBegin r.event) others

  -- a run of a ticket from its begin on, that has not ended
  pub record IsOpenRun (ticket : ℕ) (run : List (Resumption O R T)) : Type 0 where
    pub begun : IsFromBegin ticket run
    pub asks : AllByRecursion (λ r. ¬ IsDone r.next) run

  -- a run of a ticket from its begin to its end, which the last resume alone is
  pub record IsWholeRun (ticket : ℕ) (run : List (Resumption O R T)) : Type 0 where
    pub begun : IsFromBegin ticket run
    pub done : (front : List (Resumption O R T)) × (last : Resumption O R T)
        × (run ≡ front ++ last ∷ []) × AllByRecursion (λ r. ¬ IsDone r.next) front × IsDone last.next

  -- the resumes are whole runs of the first tickets in their order, and at most one more run, of the next ticket, that has not ended
  abbrev pub AreRuns : List ℕ → List (Resumption O R T) → Type 0
  AreRuns [] resumes = resumes ≡ []
  AreRuns (ticket ∷ tickets) resumes =
      (resumes ≡ []) ⊎ IsOpenRun ticket resumes
      ⊎ ((run : List (Resumption O R T)) × (rest : List (Resumption O R T)) × (resumes ≡ run ++ rest) × IsWholeRun ticket run × AreRuns tickets rest)

-- in a log, launched work on each object is latched
abbrev pub IsLatched : {V O R T : Type 0} → List (Entry V O R T) → Type 0
IsLatched log = (id : ℕ) → AreRuns (tickets_of id log) (resumes_of id log)
