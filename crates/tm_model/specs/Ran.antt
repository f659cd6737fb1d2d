-- What a trustee's log is to the slots, and what it ran for a place.
use Rattle.std.specs.Prelude.{ℕ, ◌==◌, cond, List, [], ◌∷◌, ◌++◌}
use Rattle.tm_batch.specs.declared.message.Request.{Request}
use Rattle.tm_batch.specs.declared.message.Answer.{Answer}
use Rattle.tm_model.specs.declared.entry.Entry.{Entry}
use Rattle.tm_model.specs.declared.entry.Entry.TheVariants.{By, Resume, Sent}
use Rattle.tm_model.specs.GoodSlots.{Mark, Ran, Left, Other, ran_by}

module _ {V O R T : Type 0} where
  -- what an entry is to the slots
  abbrev pub mark_of : Entry V O R T → Mark (Request V O R T)
  mark_of (By c k q a) = Ran c q
  mark_of (Resume id ticket event next) = Other
  mark_of (Sent c room) = Left c room

  -- the requests that a log ran for place c
  abbrev pub ran : ℕ → List (Entry V O R T) → List (Request V O R T)
  ran c log = ran_by mark_of c log

  -- the numbers of the requests that a log ran for place c
  abbrev pub numbers : ℕ → List (Entry V O R T) → List ℕ
  numbers c [] = []
  numbers c (By d k q a ∷ es) = cond (d == c) (k ∷ numbers c es) (numbers c es)
  numbers c (Resume id ticket event next ∷ es) = numbers c es
  numbers c (Sent d room ∷ es) = numbers c es

  -- the answers to the requests that a log ran for place c
  abbrev pub answered : ℕ → List (Entry V O R T) → List (Answer V O R T)
  answered c [] = []
  answered c (By d k q a ∷ es) = cond (d == c) (a ∷ answered c es) (answered c es)
  answered c (Resume id ticket event next ∷ es) = answered c es
  answered c (Sent d room ∷ es) = answered c es

  -- the answers to place c that have not left after a log, where `waiting` had not before it
  abbrev pub waiting_after : ℕ → List (Answer V O R T) → List (Entry V O R T) → List (Answer V O R T)
  waiting_after c waiting [] = waiting
  waiting_after c waiting (By d k q a ∷ es) = waiting_after c (cond (d == c) (waiting ++ a ∷ []) waiting) es
  waiting_after c waiting (Resume id ticket event next ∷ es) = waiting_after c waiting es
  waiting_after c waiting (Sent d room ∷ es) = waiting_after c (cond (d == c) [] waiting) es
