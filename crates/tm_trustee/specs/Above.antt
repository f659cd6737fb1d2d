-- What a trustee does at its sides of the tables of greater trustees.
use Rattle.std.specs.Prelude.{◌≡◌, ◌≢◌, ℕ, ◌+◌, ◌-◌, ◌⊎◌, Bool, true, false, cond, List, [], ◌∷◌, length, take, drop, map, IsSome}
use Rattle.std.specs.List.{AllByRecursion}
use Rattle.std.specs.declared.option.Option.{Option}
use Rattle.std.specs.declared.option.Option.TheVariants.{None, Some}
use Rattle.tm_batch.specs.declared.limits.TheConstants.{MOST_REQUESTS}
use Rattle.tm_batch.specs.declared.batch.Batch.{Batch}
use Rattle.tm_batch.specs.declared.message.Request.{Request}
use Rattle.tm_batch.specs.declared.message.Request.TheVariants.{Bye}
use Rattle.tm_model.specs.declared.entry.Entry.{Entry}
use Rattle.tm_model.specs.State.{Setup}
use Rattle.tm_model.specs.Holds.{has_bye}
use Rattle.tm_pair.specs.Views.{ClientView}
use Rattle.tm_pair.specs.Calls.{Publishes, Collects}
use Rattle.tm_pair.specs.Theory.{Theory, KeepsSides}
use Rattle.tm_pair.specs.Moves.{answers_found}
use Rattle.tm_pair.specs.declared.moves.Move.TheVariants.{Publish, Collect}
use Rattle.tm_pair.specs.declared.table.Collected.{Collected}
use Rattle.tm_trustee.specs.NestedAsks.{target, asks_of, asked_by, IsApply}
use Rattle.tm_trustee.specs.declared.stage.Stage.{Stage}
use Rattle.tm_trustee.specs.declared.stage.Stage.TheVariants.{Before, Out, Over}

-- one where there is something, else nothing
abbrev pub one_if : {X : Type 0} → Option X → ℕ
one_if None = 0
one_if (Some x) = 1

module _ {V O R T : Type 0} where
  -- how far a trustee is with its Bye at a side: it has not said it; or it is out; or the answer to it came
  abbrev pub IsAt : Stage → ClientView V O R T → Type 0
  IsAt Before view = has_bye view.sent ≡ false
  IsAt Out view = (has_bye view.sent ≡ true) × IsSome view.out
  IsAt Over view = (has_bye view.sent ≡ true) × (view.out ≡ None)

  -- what a trustee that has done so much asked of trustee u and its side there did not send
  abbrev pub unsent : Setup → List (Entry V O R T) → ℕ → ClientView V O R T → List (ℕ × O)
  unsent setup done u view = drop (length (asked_by view.sent)) (map target (asks_of setup u done))

  -- it looked for answers, where a batch was out
  abbrev pub LooksUp : ClientView V O R T → ClientView V O R T → Type 0
  LooksUp old new = IsSome old.out × ((found : Collected V O R T) × Collects old new found)

  -- nothing was out, and it sent the first of what waits, at most 16 asks, with no room for gifts
  abbrev pub SendsAsks : List (ℕ × O) → ClientView V O R T → ClientView V O R T → Type 0
  SendsAsks waits old new =
      (old.out ≡ None) × (waits ≢ [])
      × ((b : List (Request V O R T)) × AllByRecursion IsApply b × (asked_by b ≡ take MOST_REQUESTS waits) × Publishes b 0 old new)

  -- it looked where a batch was out; else it sent the first of what waits, if anything does
  abbrev pub Exchanges : List (ℕ × O) → ClientView V O R T → ClientView V O R T → Type 0
  Exchanges waits old new = LooksUp old new ⊎ SendsAsks waits old new ⊎ ((old.out ≡ None) × (waits ≡ []) × (new ≡ old))

  -- where `all` holds it says Bye, unless it has
  abbrev pub SaysBye : Type 0 → ClientView V O R T → ClientView V O R T → Type 0
  SaysBye all old new =
      (all × (has_bye old.sent ≡ false) × Publishes (Bye ∷ []) 0 old new)
      ⊎ ((new ≡ old) × ((has_bye old.sent ≡ true) ⊎ (¬ all)))

  -- it did both, in this order
  abbrev pub GoesUp : List (ℕ × O) → Type 0 → ClientView V O R T → ClientView V O R T → Type 0
  GoesUp waits all old new = (mid : ClientView V O R T) × Exchanges waits old mid × SaysBye all mid new

  -- P holds of the views of the same positions of two lists, which are as long, by the numbers of their trustees from u on
  abbrev pub Each : (ℕ → ClientView V O R T → ClientView V O R T → Type 0) → ℕ → List (ClientView V O R T) → List (ClientView V O R T) → Type 0
  Each P u [] [] = Unit {0}
  Each P u (old ∷ olds) (new ∷ news) = P u old new × Each P (u + 1) olds news
  Each P u _ _ = ⊥

  -- how many batches a side has published: those whose answers it got, and the one that is out
  abbrev pub published : ClientView V O R T → ℕ
  published view = length view.got + one_if view.out

  -- how many batches were published and collected at a side
  abbrev pub moves_up : ClientView V O R T → ClientView V O R T → ℕ
  moves_up old new = (published new - published old) + (length new.got - length old.got)

  abbrev pub all_moves_up : List (ClientView V O R T) → List (ClientView V O R T) → ℕ
  all_moves_up (old ∷ olds) (new ∷ news) = moves_up old new + all_moves_up olds news
  all_moves_up _ _ = 0

-- the same of tables and their sides: what was done at a table, and what the call kept of it
module _ {V O R T Table Client Owner : Type 0} (theory : Theory V O R T Table Client Owner) where
  -- a side looked for answers, where a batch was out
  abbrev pub LooksUpAt : Table → Table → Client → Client → Type 0
  LooksUpAt was now old new =
      IsSome (theory.client_view old).out
      × ((found : Collected V O R T) × Collects (theory.client_view old) (theory.client_view new) found
      × theory.Did (Collect (theory.client_view old).place (answers_found found)) was now × KeepsSides theory was now old new)

  -- nothing was out, and a side sent the first of what waits
  abbrev pub SendsAsksAt : List (ℕ × O) → Table → Table → Client → Client → Type 0
  SendsAsksAt waits was now old new =
      ((theory.client_view old).out ≡ None) × (waits ≢ [])
      × ((batch : Batch V O R T) × AllByRecursion IsApply batch.requests.items × (asked_by batch.requests.items ≡ take MOST_REQUESTS waits)
      × (batch.room ≡ 0) × Publishes batch.requests.items batch.room (theory.client_view old) (theory.client_view new)
      × theory.Did (Publish (theory.client_view old).place batch) was now × KeepsSides theory was now old new)

  -- a side looked where a batch was out; else it sent the first of what waits; where nothing does the table stays
  abbrev pub ExchangesAt : List (ℕ × O) → Table → Table → Client → Client → Type 0
  ExchangesAt waits was now old new =
      LooksUpAt was now old new
      ⊎ SendsAsksAt waits was now old new
      ⊎ (((theory.client_view old).out ≡ None) × (waits ≡ []) × (now ≡ was) × (theory.client_view new ≡ theory.client_view old)
      × KeepsSides theory was now old new)

  -- a side published a Bye alone, with no room for gifts
  abbrev pub PublishesBye : Table → Table → Client → Client → Type 0
  PublishesBye was now old new =
      (batch : Batch V O R T) × (batch.requests.items ≡ Bye ∷ []) × (batch.room ≡ 0)
      × Publishes batch.requests.items batch.room (theory.client_view old) (theory.client_view new)
      × theory.Did (Publish (theory.client_view old).place batch) was now × KeepsSides theory was now old new

  -- where `all` holds it says Bye, unless it has; where it says none, the table stays
  abbrev pub SaysByeAt : Type 0 → Table → Table → Client → Client → Type 0
  SaysByeAt all was now old new =
      (all × (has_bye (theory.client_view old).sent ≡ false) × PublishesBye was now old new)
      ⊎ ((new ≡ old) × (now ≡ was) × ((has_bye (theory.client_view old).sent ≡ true) ⊎ (¬ all)))

  -- it did both, in this order
  abbrev pub GoesUpAt : List (ℕ × O) → Type 0 → Table → Table → Client → Client → Type 0
  GoesUpAt waits all was now old new =
      (between : Table) × (mid : Client) × ExchangesAt waits was between old mid × theory.HasClient between mid × SaysByeAt all between now mid new

-- one where an answer is true, else nothing
abbrev pub Counts : Bool → ℕ → Type 0
Counts answer n = n ≡ cond answer 1 0
