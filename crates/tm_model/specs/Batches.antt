-- The answer batches that left for a place.
use Rattle.std.specs.Prelude.{ℕ, ◌+◌, ◌-◌, ◌^◌, ◌==◌, min, cond, List, [], ◌∷◌, ◌++◌, take}
use Rattle.tm_seq.specs.Kind.{Kind}
use Rattle.tm_batch.specs.declared.limits.TheConstants.{MOST_COMPLETIONS}
use Rattle.tm_batch.specs.declared.message.Answer.{Answer}
use Rattle.tm_batch.specs.declared.message.AnswerBatch.{AnswerBatch}
use Rattle.tm_model.specs.declared.entry.Entry.{Entry}
use Rattle.tm_model.specs.declared.entry.Entry.TheVariants.{By, Resume, Sent}
use Rattle.tm_model.specs.State.{State, place_of}
use Rattle.tm_model.specs.Serve.{after}

module _ {V O R T : Type 0} where
  -- what leaves for place c in a state: the answers since its last batch, the first gifts that wait and the first completions that
  -- are ready, and the length of the log with this entry
  abbrev pub leaving : ℕ → ℕ → ℕ → List (Answer V O R T) → State V O R T → AnswerBatch V O R T
  leaving c room front answers s = record {
    front = min front (2 ^ 64 - 1);
    answers = record { items = answers };
    gifts = record { items = take room (place_of s c).gifts };
    completions = record { items = take MOST_COMPLETIONS (place_of s c).ready };
  }

  -- the answer batches that leave for place c by some entries, behind `n` entries that leave a state and answers that have not left
  abbrev pub batches_from :
      Kind V O R T → ℕ → ℕ → List (Answer V O R T) → State V O R T → List (Entry V O R T) → List (AnswerBatch V O R T)
  batches_from kind c n waiting s [] = []
  batches_from kind c n waiting s (By d k q a ∷ es) =
      batches_from kind c (n + 1) (cond (d == c) (waiting ++ a ∷ []) waiting) (after kind s (By d k q a)) es
  batches_from kind c n waiting s (Resume id ticket event next ∷ es) =
      batches_from kind c (n + 1) waiting (after kind s (Resume id ticket event next)) es
  batches_from kind c n waiting s (Sent d room ∷ es) =
      cond (d == c)
      (leaving c room (n + 1) waiting s ∷ batches_from kind c (n + 1) [] (after kind s (Sent d room)) es)
      (batches_from kind c (n + 1) waiting (after kind s (Sent d room)) es)

  -- the answer batches that left for place c by a log, one for each entry by which a batch of c left
  abbrev pub batches : Kind V O R T → State V O R T → ℕ → List (Entry V O R T) → List (AnswerBatch V O R T)
  batches kind opening c log = batches_from kind c 0 [] opening log
