-- What the tasks ask of their client.
use Rattle.std.specs.Prelude.{◌≡◌, ℕ, List, [], ◌∷◌, length, slice_get, slice_set}
use Rattle.std.specs.declared.option.Option.TheVariants.{Some}
use Rattle.tm_seq.specs.Kind.{Kind}
use Rattle.tm_batch.specs.declared.message.Request.TheVariants.{Apply}
use Rattle.tm_pair.specs.Theory.{Theory}
use Rattle.tm_client.specs.declared.answers.Got.{Got}
use Rattle.tm_client.specs.declared.answers.Turn.{Turn}
use Rattle.tm_client.specs.declared.books.Books.{Books}
use Rattle.tm_client.specs.declared.trust.Trust.{Trust}
use Rattle.tm_client.specs.Asking.{HasAsked}
use Rattle.tm_client.specs.Taking.{HasTaken}
use Rattle.tm_client.specs.Turns.{HasTurned}
use Rattle.tm_task.specs.declared.deed.Deed.{Deed}
use Rattle.tm_task.specs.declared.deed.Deed.TheVariants.{Added, Started, Asked, Resumed, Turned}
use Rattle.tm_task.specs.declared.stage.Stage.{Stage}
use Rattle.tm_task.specs.Rules.{Rules}
use Rattle.tm_task.specs.Stages.{Steps}

-- what the tasks are at, what their client keeps, and the tables of the trustees
pub record World (V T U O R K D Table : Type 0) : Type 0 where
  pub stages : List (Stage V T U O R K)
  pub books : Books V ℕ D O R K
  pub tables : List Table

module _ {V T U O R K D Table Owner : Type 0} (theory : Theory V O R K Table D Owner) (kind : Kind V O R K) (rules : Rules V T U O R K)
    (trusts : List Trust) where
  -- nothing was asked of the client
  pub record IsApart (was now : World V T U O R K D Table) : Type 0 where
    pub books : now.books ≡ was.books
    pub tables : now.tables ≡ was.tables

  -- the client accepted, for task n, an operation on the trust of index i; its continuation is the task's number
  pub record AsksFor (n i : ℕ) (op : O) (was now : World V T U O R K D Table) : Type 0 where
    pub trust : Trust
    pub of_trust : slice_get trusts i ≡ Some trust
    pub asked : HasAsked trust.trustee (Apply trust.name op) n 0 was.books now.books
    pub tables : now.tables ≡ was.tables

  -- the client handed out the answer that came first, to the request of task n
  pub record TakesFor (n : ℕ) (got : Got V O R K) (was now : World V T U O R K D Table) : Type 0 where
    pub taken : HasTaken n got was.books now.books
    pub tables : now.tables ≡ was.tables

  -- the client made its turn at trustee t, at that trustee's table
  pub record TurnsAt (t : ℕ) (turn : Turn) (was now : World V T U O R K D Table) : Type 0 where
    pub table : Table
    pub becomes : Table
    pub of_table : slice_get was.tables t ≡ Some table
    pub turned : HasTurned theory kind t turn table becomes was.books now.books
    pub tables : now.tables ≡ slice_set was.tables t becomes

  -- what a deed asks of the client
  abbrev pub Calls : Deed V T U O R K → World V T U O R K D Table → World V T U O R K D Table → Type 0
  Calls (Added task) was now = IsApart was now
  Calls (Started n move) was now = IsApart was now
  Calls (Asked n i op) was now = AsksFor n i op was now
  Calls (Resumed n got move) was now = TakesFor n got was now
  Calls (Turned t turn) was now = TurnsAt t turn was now

  -- what a deed makes of the tasks, and what it asks of the client, which is nothing else
  pub record Does (d : Deed V T U O R K) (was now : World V T U O R K D Table) : Type 0 where
    pub steps : Steps rules (length trusts) d was.stages now.stages
    pub calls : Calls d was now

  -- so do some deeds, in order
  unfoldable pub Runs : List (Deed V T U O R K) → World V T U O R K D Table → World V T U O R K D Table → Type 0
  Runs [] was now = now ≡ was
  Runs (d ∷ deeds) was now = (mid : World V T U O R K D Table) × Does d was mid × Runs deeds mid now
