-- Which ids and tickets a log gave out, and which completions it has for a place.
use Rattle.std.specs.Prelude.{ℕ, ◌==◌, cond, List, [], ◌∷◌}
use Rattle.std.specs.List.{flat_map, list_any}
use Rattle.tm_seq.specs.declared.kind.Next.TheVariants.{Done}
use Rattle.tm_batch.specs.declared.message.Request.TheVariants.{Entrust, Launch}
use Rattle.tm_batch.specs.declared.message.Answer.TheVariants.{Entrusted, Launched}
use Rattle.tm_batch.specs.declared.message.Completion.{Completion}
use Rattle.tm_batch.specs.declared.message.AnswerBatch.{AnswerBatch}
use Rattle.tm_model.specs.declared.entry.Entry.{Entry}
use Rattle.tm_model.specs.declared.entry.Entry.TheVariants.{By, Resume}

module _ {V O R T : Type 0} where
  -- the ids that a log gave out, in order
  abbrev pub ids_given : List (Entry V O R T) → List ℕ
  ids_given [] = []
  ids_given (By c k (Entrust v) (Entrusted n) ∷ es) = n.id ∷ ids_given es
  ids_given (_ ∷ es) = ids_given es

  -- the tickets that a log gave out, in order
  abbrev pub tickets_given : List (Entry V O R T) → List ℕ
  tickets_given [] = []
  tickets_given (By c k (Launch n task) (Launched ticket) ∷ es) = ticket ∷ tickets_given es
  tickets_given (_ ∷ es) = tickets_given es

  -- the completions of the launches of place c that end in a log, in order, where `given` are tickets that it got before
  abbrev pub ended_from : ℕ → List ℕ → List (Entry V O R T) → List (Completion V O R T)
  ended_from c given [] = []
  ended_from c given (By d k (Launch n task) (Launched ticket) ∷ es) = ended_from c (cond (d == c) (ticket ∷ given) given) es
  ended_from c given (Resume id ticket event (Done r) ∷ es) =
      cond (list_any (λ t. t == ticket) given) (record { ticket = ticket; reply = r } ∷ ended_from c given es) (ended_from c given es)
  ended_from c given (_ ∷ es) = ended_from c given es

  -- the completions of the launches of place c that end in a log, in order
  abbrev pub ended_for : ℕ → List (Entry V O R T) → List (Completion V O R T)
  ended_for c log = ended_from c [] log

  -- the completions of some answer batches, in order
  abbrev pub completions_in : List (AnswerBatch V O R T) → List (Completion V O R T)
  completions_in got = flat_map (λ a. a.completions.items) got
