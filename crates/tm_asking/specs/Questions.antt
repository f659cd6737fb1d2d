-- What a client asks of several trustees, question by question, and the replies, as its sides tell them.
use Rattle.std.specs.Prelude.{◌≡◌, ℕ, ◌==◌, cond, List, [], ◌∷◌, ◌++◌}
use Rattle.std.specs.List.{AllZip, Contains}
use Rattle.tm_seq.specs.declared.kind.Event.{Event}
use Rattle.tm_seq.specs.declared.kind.Next.TheVariants.{Done}
use Rattle.tm_batch.specs.declared.message.Request.{Request}
use Rattle.tm_batch.specs.declared.message.Answer.{Answer}
use Rattle.tm_batch.specs.declared.message.Answer.TheVariants.{Replied, Launched, TicketsSpent}
use Rattle.tm_model.specs.declared.entry.Entry.{Entry}
use Rattle.tm_model.specs.declared.entry.Entry.TheVariants.{Resume}
use Rattle.tm_model.specs.Lists.{IsPrefix}
use Rattle.tm_model.specs.Ran.{ran, answered}
use Rattle.tm_pair.specs.Views.{ClientView}

-- a request, and the trustee that is asked it
pub record Question (V O R T : Type 0) : Type 0 where
  pub trustee : ℕ
  pub request : Request V O R T

module _ {V O R T : Type 0} where
  -- the requests of some questions to trustee t, in order
  abbrev pub requests_at : ℕ → List (Question V O R T) → List (Request V O R T)
  requests_at t [] = []
  requests_at t (q ∷ qs) = cond (q.trustee == t) (q.request ∷ requests_at t qs) (requests_at t qs)

  -- of the replies to some questions, one for each, those to the questions to trustee t
  abbrev pub replies_at : ℕ → List (Question V O R T) → List R → List R
  replies_at t [] replies = []
  replies_at t (q ∷ qs) [] = []
  replies_at t (q ∷ qs) (r ∷ replies) = cond (q.trustee == t) (r ∷ replies_at t qs replies) (replies_at t qs replies)

  -- the work of a ticket ended with this reply
  abbrev pub HasEnded : List (Entry V O R T) → ℕ → R → Type 0
  HasEnded log ticket reply = (id : ℕ) × (event : Event R) × Contains log (Resume id ticket event (Done reply))

  -- The reply to a question that has this answer in a log: that of an operation itself, and that with which launched work ended. A launch
  -- for which no ticket was left has the reply `missing`.
  abbrev pub IsReplyOf : R → List (Entry V O R T) → Answer V O R T → R → Type 0
  IsReplyOf missing log (Replied r) reply = reply ≡ r
  IsReplyOf missing log (Launched ticket) reply = HasEnded log ticket reply
  IsReplyOf missing log (TicketsSpent task) reply = reply ≡ missing
  IsReplyOf missing log _ reply = ⊥

  -- A client asked a trustee these requests, and all were answered. Its sent list grew by exactly them. Behind what it had seen of the
  -- trustee's log stands one entry of its place for each, in order, and these are the replies that the entries have.
  pub record HasAskedAll (missing : R) (requests : List (Request V O R T)) (replies : List R) (was now : ClientView V O R T) : Type 0 where
    pub place : now.place ≡ was.place
    pub sent : now.sent ≡ was.sent ++ requests
    pub grown : List (Entry V O R T)
    pub seen : now.seen ≡ was.seen ++ grown
    pub runs : ran now.place grown ≡ requests
    pub replied : AllZip (IsReplyOf missing grown) (answered now.place grown) replies

  -- A client asked a trustee the first of these requests, of which the first were run, and these are the replies to the first of those.
  pub record HasAskedSome (missing : R) (requests : List (Request V O R T)) (replies : List R) (was now : ClientView V O R T) : Type 0 where
    pub place : now.place ≡ was.place
    pub asked : List (Request V O R T)
    pub first : IsPrefix asked requests
    pub sent : now.sent ≡ was.sent ++ asked
    pub grown : List (Entry V O R T)
    pub seen : now.seen ≡ was.seen ++ grown
    pub runs : IsPrefix (ran now.place grown) asked
    pub answers : List (Answer V O R T)
    pub answered_first : IsPrefix answers (answered now.place grown)
    pub replied : AllZip (IsReplyOf missing grown) answers replies

  -- the questions were asked, each of its trustee, and these are the replies, one for each, as the sides tell by the numbers of their trustees
  pub record AreAsked (missing : R) (trustees : ℕ) (questions : List (Question V O R T)) (replies : List R) (was now : ℕ → ClientView V O R T) : Type 0 where
    pub each : AllZip (λ (q : Question V O R T) (r : R). Unit {0}) questions replies
    pub at : (t : ℕ) → HasAskedAll missing (requests_at t questions) (replies_at t questions replies) (was t) (now t)
