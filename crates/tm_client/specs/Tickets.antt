-- Which launches of a side wait for their completion, by what came to it: the statements, each proved as the contract of a function that cites it.
use Rattle.std.specs.Prelude.{◌≡◌, nat_eq, ◌+◌, ◌++◌, length}
use Rattle.std.specs.List.{AllByRecursion, IsDistinct, Contains}
use Rattle.tm_seq.specs.Kind.{Kind}
use Rattle.tm_batch.specs.declared.message.AnswerBatch.{AnswerBatch}
use Rattle.tm_model.specs.State.{State}
use Rattle.tm_model.specs.Given.{completions_in}
use Rattle.tm_model.specs.Holds.{launches_in, answers_in, ended_in}
use Rattle.tm_pair.specs.Views.{ClientView}
use Rattle.tm_pair.specs.Sides.{IsGoodClient}
use Rattle.tm_pair.specs.Calls.{Gets}
use Rattle.tm_client.specs.Launches.{remaining, told_tickets, ended_tickets, waiting_tickets}
use Rattle.tm_client.specs.Lanes.{out_requests}

module _ {V O R T : Type 0} where
  -- what came to a side tells which of its launches wait for their completion
  pub record TellsTickets (view : ClientView V O R T) : Type 0 where
    -- a ticket comes once, and its completion comes once
    pub told : IsDistinct nat_eq (told_tickets (answers_in view.got))
    pub ended : IsDistinct nat_eq (ended_tickets (completions_in view.got))
    -- a completion that came is of a ticket that came
    pub come : AllByRecursion (λ t. Contains (told_tickets (answers_in view.got)) t) (ended_tickets (completions_in view.got))
    -- a launch that was sent is out, waits for its completion, or ended
    pub launches : launches_in view.sent ≡ ended_in view.got + (launches_in (out_requests view.out) + length (waiting_tickets view.got))

  -- what the answers a did to the tickets that wait
  pub record EndsTickets (a : AnswerBatch V O R T) (old new : ClientView V O R T) : Type 0 where
    -- those that waited and those that came in a are all distinct
    pub told : IsDistinct nat_eq (waiting_tickets old.got ++ told_tickets a.answers.items)
    -- the completions in a are of such tickets, each of another
    pub ended : IsDistinct nat_eq (ended_tickets a.completions.items)
    pub among : AllByRecursion (λ t. Contains (waiting_tickets old.got ++ told_tickets a.answers.items) t) (ended_tickets a.completions.items)
    -- and what waits then is the rest of them
    pub waits : waiting_tickets new.got ≡ remaining (ended_tickets a.completions.items) (waiting_tickets old.got ++ told_tickets a.answers.items)

  module _ (kind : Kind V O R T) where
    -- what came to a side tells which of its launches wait
    abbrev pub TicketsTell : Type 0
    TicketsTell = (opening : State V O R T) (view : ClientView V O R T) → IsGoodClient kind opening view → TellsTickets view

    -- what a collect did to the tickets that wait
    abbrev pub CollectsEnd : Type 0
    CollectsEnd =
        (opening : State V O R T) (old new : ClientView V O R T) (a : AnswerBatch V O R T)
        → IsGoodClient kind opening old → IsGoodClient kind opening new → Gets a old new → EndsTickets a old new
