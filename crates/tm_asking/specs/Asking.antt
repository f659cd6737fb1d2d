-- Questions that a client asked of trustees since its sides stood as they did, and which of their replies came.
use Rattle.std.specs.Prelude.{◌≡◌, ℕ, ◌+◌, ◌<◌, ◌≤◌, ◌==◌, ◌⊎◌, cond, false, List, [], ◌∷◌, ◌++◌, length, map, slice_get}
use Rattle.std.specs.List.{AllByRecursion, Contains}
use Rattle.std.specs.declared.option.Option.{Option}
use Rattle.std.specs.declared.option.Option.TheVariants.{None, Some}
use Rattle.tm_batch.specs.declared.message.Request.{Request}
use Rattle.tm_batch.specs.declared.message.Request.TheVariants.{Apply, Launch}
use Rattle.tm_batch.specs.declared.message.Answer.{Answer}
use Rattle.tm_batch.specs.declared.message.Answer.TheVariants.{Replied, Launched, TicketsSpent}
use Rattle.tm_model.specs.declared.entry.Entry.{Entry}
use Rattle.tm_model.specs.Ran.{ran, answered}
use Rattle.tm_model.specs.Holds.{answers_in}
use Rattle.tm_pair.specs.Views.{ClientView, new_client}
use Rattle.tm_client.specs.declared.lane.Lane.{Lane}
use Rattle.tm_client.specs.declared.lane.Unfinished.{Unfinished}
use Rattle.tm_client.specs.declared.trust.Trust.{Trust}
use Rattle.tm_client.specs.declared.answers.Arrival.{Arrival}
use Rattle.tm_client.specs.declared.answers.Came.{Came}
use Rattle.tm_client.specs.declared.answers.Came.TheVariants.{Answered, Finished}
use Rattle.tm_client.specs.declared.books.Books.{Books}
use Rattle.tm_client.specs.Lanes.{out_requests}
use Rattle.tm_client.specs.Asking.{IsOpen, IsHeldBy}
use Rattle.tm_asking.specs.Questions.{Question, requests_at, replies_at, HasEnded, IsReplyOf, HasAskedAll, HasAskedSome}

module _ {V O R T : Type 0} where
  -- an operation on the object of a trust, and work that is launched on it
  abbrev pub operation : Trust → O → Question V O R T
  operation trust op = record { trustee = trust.trustee; request = Apply trust.name op }

  abbrev pub launched : Trust → T → Question V O R T
  launched trust task = record { trustee = trust.trustee; request = Launch trust.name task }

  -- the numbers of the questions to trustee t, where the first of all has number n
  abbrev pub numbers_at : ℕ → ℕ → List (Question V O R T) → List ℕ
  numbers_at t n [] = []
  numbers_at t n (q ∷ qs) = cond (q.trustee == t) (n ∷ numbers_at t (n + 1) qs) (numbers_at t (n + 1) qs)

  -- a request runs an operation or launches work, so that there is a reply to it
  abbrev pub HasReply : Request V O R T → Type 0
  HasReply (Apply n op) = Unit {0}
  HasReply (Launch n task) = Unit {0}
  HasReply _ = ⊥

  -- what came of trustee t and was not taken: the number of each question, which is its continuation, and what came for it
  abbrev pub come_at : ℕ → List (Arrival V ℕ O R T) → List (ℕ × Came V O R T)
  come_at t [] = []
  come_at t (a ∷ arrived) = cond (a.trustee == t) ((a.after, a.came) ∷ come_at t arrived) (come_at t arrived)

  -- the numbers of the questions that were answered, and whose replies were not taken: what came of trustee t, and the launches there that
  -- lack their completion
  abbrev pub untaken_at : ℕ → List (Arrival V ℕ O R T) → List (Unfinished ℕ) → List ℕ
  untaken_at t arrived unfinished = map (λ c. c.0) (come_at t arrived) ++ map (λ l. l.after) unfinished

  -- what came for a question that has this answer: the answer itself, or for a launch the reply with which the work of its ticket ended
  abbrev pub CameFor : List (Entry V O R T) → Answer V O R T → Came V O R T → Type 0
  CameFor log answer (Answered (Replied r)) = answer ≡ Replied r
  CameFor log answer (Answered (TicketsSpent task)) = answer ≡ TicketsSpent task
  CameFor log answer (Answered _) = ⊥
  CameFor log answer (Finished reply) = (ticket : ℕ) × (answer ≡ Launched ticket) × HasEnded log ticket reply

  -- of the answers that came, with the numbers of their questions, one is that for which this came
  abbrev pub IsCome : List (Entry V O R T) → List (ℕ × Answer V O R T) → ℕ × Came V O R T → Type 0
  IsCome log told come = (answer : Answer V O R T) × Contains told (come.0, answer) × CameFor log answer come.1

  -- one of them is the ticket of this launch
  abbrev pub IsTold : List (ℕ × Answer V O R T) → Unfinished ℕ → Type 0
  IsTold told l = Contains told (l.after, Launched l.ticket)

  -- the reply to a question that has this answer stands at the place of its number
  abbrev pub IsNoted : R → List (Entry V O R T) → List R → ℕ × Answer V O R T → Type 0
  IsNoted missing log replies answer = (r : R) × (slice_get replies answer.0 ≡ Some r) × IsReplyOf missing log answer.1 r

  -- the reply to a question that has this answer was not taken, or is noted
  abbrev pub IsDealt : R → List (Entry V O R T) → List R → List ℕ → ℕ × Answer V O R T → Type 0
  IsDealt missing log replies untaken answer = Contains untaken answer.0 ⊎ IsNoted missing log replies answer

  -- a side has seen all that it sent, with the answers that it got
  pub record IsSettled (view : ClientView V O R T) : Type 0 where
    pub runs : view.sent ≡ ran view.place view.seen
    pub entries : answers_in view.got ≡ answered view.place view.seen

  -- since a side stood so, there is a reply to each of its requests, and it has seen all that it sent but for what is out
  pub record IsSideAsked (was now : ClientView V O R T) : Type 0 where
    pub settled : IsSettled was
    pub place : now.place ≡ was.place
    pub grown : List (Entry V O R T)
    pub seen : now.seen ≡ was.seen ++ grown
    pub runs : now.sent ≡ ran now.place now.seen ++ out_requests now.out
    pub entries : answers_in now.got ≡ answered now.place now.seen
    pub out_reply : AllByRecursion HasReply (out_requests now.out)

module _ {V O R T D : Type 0} (view : D → ClientView V O R T) (missing : R) where
  -- Of some questions those to trustee t were asked since its side stood so, and what is still to come of them is what the lane expects.
  -- `missing` is the reply to a launch for which no ticket was left.
  pub record IsAskedAt (t : ℕ) (was : ClientView V O R T) (asked : List (Question V O R T)) (replies : List R) (arrived : List (Arrival V ℕ O R T))
      (lane : Lane V ℕ D O R T) : Type 0 where
    pub side : IsSideAsked was (view lane.side)
    pub is_open : lane.closing ≡ false
    -- the questions were sent, or wait to be
    pub sent : (view lane.side).sent ++ lane.waits.items ≡ was.sent ++ requests_at t asked
    pub waits_reply : AllByRecursion HasReply lane.waits.items
    -- the first of the questions were answered; for the answers to the rest the continuations wait
    pub told : List (ℕ × Answer V O R T)
    pub numbers : map (λ c. c.0) told ++ map (λ w. w.after) lane.afters.items ≡ numbers_at t 0 asked
    pub got : answers_in (view lane.side).got ≡ answers_in was.got ++ map (λ c. c.1) told
    -- of those that were answered the replies are noted, or not taken yet
    pub dealt : AllByRecursion (IsDealt missing side.grown replies (untaken_at t arrived lane.launched.items)) told
    pub come : AllByRecursion (IsCome side.grown told) (come_at t arrived)
    pub unfinished : AllByRecursion (IsTold told) lane.launched.items

  -- Since its sides stood so, by the numbers of their trustees, a client asked these questions, and of the places for their replies those
  -- hold theirs whose replies were taken.
  pub record IsAsking (was : ℕ → ClientView V O R T) (asked : List (Question V O R T)) (replies : List R) (books : Books V ℕ D O R T) : Type 0 where
    pub few : length asked ≤ length replies
    pub known : AllByRecursion (λ q. q.trustee < length books.lanes.items) asked
    pub lanes : (t : ℕ) (lane : Lane V ℕ D O R T) → slice_get books.lanes.items t ≡ Some lane
        → IsAskedAt t (was t) asked replies books.arrived.items lane

module _ {V O R T D : Type 0} (view : D → ClientView V O R T) where
  -- the side of a lane, if there is one
  abbrev pub side_in : ℕ → Option (Lane V ℕ D O R T) → ClientView V O R T
  side_in t None = new_client t
  side_in t (Some lane) = view lane.side

  -- what a client's sides stand for, by the numbers of their trustees
  abbrev pub sides_of : Books V ℕ D O R T → ℕ → ClientView V O R T
  sides_of books t = side_in t (slice_get books.lanes.items t)

module _ {V O R T D : Type 0} where
  -- at no trustee a request counts
  abbrev pub NoneCounts : Books V ℕ D O R T → Type 0
  NoneCounts books = (t : ℕ) (lane : Lane V ℕ D O R T) → slice_get books.lanes.items t ≡ Some lane → lane.counting ≡ 0

  -- the client was closed for no trustee
  abbrev pub AllOpen : Books V ℕ D O R T → Type 0
  AllOpen books = (t : ℕ) (lane : Lane V ℕ D O R T) → slice_get books.lanes.items t ≡ Some lane → lane.closing ≡ false

  -- a trust is in the client's list, and its trustee was not closed
  abbrev pub MayAskBy : Books V ℕ D O R T → Trust → Type 0
  MayAskBy books trust = IsHeldBy books trust × IsOpen books trust.trustee

module _ {V O R T D : Type 0} (view : D → ClientView V O R T) where
  -- Since its sides stood so, a client asked these questions, all of which have these replies, one for each.
  pub record AreReplied (missing : R) (was : ℕ → ClientView V O R T) (asked : List (Question V O R T)) (replies : List R) (books : Books V ℕ D O R T) : Type 0 where
    pub each : length replies ≡ length asked
    pub at : (t : ℕ) (lane : Lane V ℕ D O R T) → slice_get books.lanes.items t ≡ Some lane
        → HasAskedAll missing (requests_at t asked) (replies_at t asked replies) (was t) (view lane.side)

  -- so far they asked the first of these questions, whatever counts as the reply to a launch for which no ticket was left
  abbrev pub AreBegun : (ℕ → ClientView V O R T) → List (Question V O R T) → Books V ℕ D O R T → Type 0
  AreBegun was asked books =
      (t : ℕ) (lane : Lane V ℕ D O R T) (missing : R) → slice_get books.lanes.items t ≡ Some lane → HasAskedSome missing (requests_at t asked) [] (was t) (view lane.side)
