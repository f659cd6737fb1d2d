-- What taking a reply did.
use Rattle.std.specs.Prelude.{◌≡◌, ℕ, ◌⊎◌, List, slice_set}
use Rattle.tm_client.specs.declared.answers.Got.{Got}
use Rattle.tm_client.specs.declared.answers.Got.TheVariants.{Replied as ReplyOf, Finished as EndOf, TicketsSpent as TaskOf}
use Rattle.tm_client.specs.declared.books.Books.{Books}
use Rattle.tm_client.specs.Taking.{HasTaken}
use Rattle.tm_asking.specs.declared.asking.Taken.{Taken}
use Rattle.tm_asking.specs.declared.asking.Taken.TheVariants.{Reply, TicketsSpent}

module _ {V O R T : Type 0} where
  -- what a client handed out gives a reply: it is that of an operation or of launched work, or no ticket was left
  abbrev pub GivesReply : Got V O R T → Type 0
  GivesReply (ReplyOf r) = Unit {0}
  GivesReply (EndOf r) = Unit {0}
  GivesReply (TaskOf task) = Unit {0}
  GivesReply _ = ⊥

  -- the reply by what a client handed out: that of an operation, that with which launched work ended, or `missing` where no ticket was left
  abbrev pub reply_by : R → Got V O R T → R
  reply_by missing (ReplyOf r) = r
  reply_by missing (EndOf r) = r
  reply_by missing _ = missing

  -- what a take says of what the client handed out with this number: that it was a reply, or the task of a launch for which no ticket was
  -- left, and the number
  abbrev pub Says : Taken V O R T → ℕ → Got V O R T → Type 0
  Says Reply number got = (r : R) × ((got ≡ ReplyOf r) ⊎ (got ≡ EndOf r))
  Says (TicketsSpent place task) number got = (place ≡ number) × (got ≡ TaskOf task)

-- what came first to a client was taken, and the reply by it stands at the place of its question's number
pub record HasNoted {V O R T D : Type 0} (missing : R) (taken : Taken V O R T) (replies replies_new : List R) (old new : Books V ℕ D O R T) : Type 0 where
  pub number : ℕ
  pub got : Got V O R T
  pub took : HasTaken number got old new
  pub says : Says taken number got
  pub noted : replies_new ≡ slice_set replies number (reply_by missing got)
