-- The launches of a lane whose tickets came and whose completions did not.
use Rattle.std.specs.Prelude.{◌≡◌, ℕ, ◌==◌, not, List, [], ◌∷◌, ◌++◌, map, filter, find, slice_get, IsSomeAnd}
use Rattle.std.specs.List.{flat_map, list_any}
use Rattle.std.specs.declared.option.Option.{Option}
use Rattle.std.specs.declared.option.Option.TheVariants.{None, Some}
use Rattle.tm_batch.specs.declared.message.Answer.{Answer}
use Rattle.tm_batch.specs.declared.message.Answer.TheVariants.{Launched}
use Rattle.tm_batch.specs.declared.message.Completion.{Completion}
use Rattle.tm_batch.specs.declared.message.AnswerBatch.{AnswerBatch}
use Rattle.tm_model.specs.Given.{completions_in}
use Rattle.tm_model.specs.Holds.{answers_in}
use Rattle.tm_client.specs.declared.lane.Lane.{Lane}
use Rattle.tm_client.specs.declared.lane.Waiting.{Waiting}
use Rattle.tm_client.specs.declared.lane.Unfinished.{Unfinished}
use Rattle.tm_client.specs.declared.answers.Arrival.{Arrival}
use Rattle.tm_client.specs.declared.answers.Came.TheVariants.{Answered, Finished}

-- some tickets without those that are gone
abbrev pub remaining : List ℕ → List ℕ → List ℕ
remaining gone tickets = filter (λ t. not (list_any (λ g. g == t) gone)) tickets

module _ {V O R T : Type 0} where
  -- the tickets that some answers tell, in order
  abbrev pub told_tickets : List (Answer V O R T) → List ℕ
  told_tickets [] = []
  told_tickets (Launched ticket ∷ answers) = ticket ∷ told_tickets answers
  told_tickets (_ ∷ answers) = told_tickets answers

  -- the ticket that an answer tells, if it is one to a launch
  abbrev pub ticket_in : Answer V O R T → Option ℕ
  ticket_in (Launched ticket) = Some ticket
  ticket_in _ = None

  -- the tickets of some completions, in order
  abbrev pub ended_tickets : List (Completion V O R T) → List ℕ
  ended_tickets completions = map (λ x. x.ticket) completions

  -- the tickets that came and whose completions did not, in the order in which they came
  abbrev pub waiting_tickets : List (AnswerBatch V O R T) → List ℕ
  waiting_tickets got = remaining (ended_tickets (completions_in got)) (told_tickets (answers_in got))

module _ {C : Type 0} where
  -- the tickets of some launches
  abbrev pub tickets_of : List (Unfinished C) → List ℕ
  tickets_of launched = map (λ l. l.ticket) launched

  -- the launch at an index is that of a ticket
  abbrev pub HasTicket : List (Unfinished C) → ℕ → ℕ → Type 0
  HasTicket launched at ticket = IsSomeAnd (slice_get launched at) (λ l. l.ticket ≡ ticket)

  -- of some launches that of a ticket, and those of other tickets
  abbrev pub launch_of : ℕ → List (Unfinished C) → Option (Unfinished C)
  launch_of ticket launched = find (λ l. l.ticket == ticket) launched

  abbrev pub other_launches : ℕ → List (Unfinished C) → List (Unfinished C)
  other_launches ticket launched = filter (λ l. not (l.ticket == ticket)) launched

  -- those whose tickets are none of some
  abbrev pub launches_left : List ℕ → List (Unfinished C) → List (Unfinished C)
  launches_left ended launched = filter (λ l. not (list_any (λ g. g == l.ticket) ended)) launched

module _ {V O R T C : Type 0} where
  -- what arrives of a continuation that waited for an answer, by it: nothing yet where it is the ticket of a launch
  abbrev pub arrival_by : ℕ → Waiting C → Answer V O R T → List (Arrival V C O R T)
  arrival_by t w (Launched ticket) = []
  arrival_by t w a = record { trustee = t; name = w.name; after = w.after; came = Answered a } ∷ []

  -- and what waits for the completion then
  abbrev pub launch_by : Waiting C → Answer V O R T → List (Unfinished C)
  launch_by w (Launched ticket) = record { ticket = ticket; after = w.after; name = w.name } ∷ []
  launch_by w _ = []

  -- each of some continuations, and the name of its request, with the answer of its position, but those of launches whose tickets came
  abbrev pub arrivals_of : ℕ → List (Waiting C) → List (Answer V O R T) → List (Arrival V C O R T)
  arrivals_of t [] answers = []
  arrivals_of t (w ∷ waiting) [] = []
  arrivals_of t (w ∷ waiting) (a ∷ answers) = arrival_by t w a ++ arrivals_of t waiting answers

  -- those of launches whose tickets came, each with the ticket of its position
  abbrev pub launches_of : List (Waiting C) → List (Answer V O R T) → List (Unfinished C)
  launches_of [] answers = []
  launches_of (w ∷ waiting) [] = []
  launches_of (w ∷ waiting) (a ∷ answers) = launch_by w a ++ launches_of waiting answers

  -- the continuation of a launch, and the name of its request, with the reply with which its work ended
  abbrev pub finish_of : ℕ → R → Option (Unfinished C) → List (Arrival V C O R T)
  finish_of t reply None = []
  finish_of t reply (Some l) = record { trustee = t; name = l.name; after = l.after; came = Finished reply } ∷ []

  -- what arrives by a completion: the launch of its ticket with its reply
  abbrev pub finished_by : ℕ → List (Unfinished C) → Completion V O R T → List (Arrival V C O R T)
  finished_by t launched x = finish_of t x.reply (launch_of x.ticket launched)

  abbrev pub finished_of : ℕ → List (Unfinished C) → List (Completion V O R T) → List (Arrival V C O R T)
  finished_of t launched completions = flat_map (λ x. finished_by t launched x) completions

  -- the launches of a lane that lack their completion, and behind them those whose tickets some answers tell
  abbrev pub with_told : {D : Type 0} → Lane V C D O R T → AnswerBatch V O R T → List (Unfinished C)
  with_told lane answers = lane.launched.items ++ launches_of lane.afters.items answers.answers.items
