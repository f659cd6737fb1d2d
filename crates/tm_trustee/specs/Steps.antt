-- What a step at a side above needs of its table, the side and the lane, and what it does.
use Rattle.std.specs.Prelude.{◌≡◌, ◌≢◌, ℕ, ◌≤◌, ◌⊎◌, Bool, true, false, []}
use Rattle.std.specs.List.{AllByRecursion}
use Rattle.std.specs.declared.option.Option.TheVariants.{None, Some}
use Rattle.tm_batch.specs.declared.limits.TheConstants.{MOST_REQUESTS}
use Rattle.tm_batch.specs.declared.batch.Batch.{Batch}
use Rattle.tm_batch.specs.declared.message.Request.{Request}
use Rattle.tm_batch.specs.declared.message.Request.TheVariants.{Apply}
use Rattle.tm_batch.specs.declared.message.AnswerBatch.{AnswerBatch}
use Rattle.tm_model.specs.State.{State, holds_at}
use Rattle.tm_model.specs.Holds.{has_bye}
use Rattle.tm_pair.specs.Calls.{IsPending, Gets, Publishes}
use Rattle.tm_pair.specs.Theory.{Theory, KeepsSides}
use Rattle.tm_pair.specs.declared.moves.Move.TheVariants.{Publish, Collect}
use Rattle.tm_trustee.specs.Above.{SaysByeAt}
use Rattle.tm_trustee.specs.Lanes.{TakesIn, LetsGo}
use Rattle.tm_trustee.specs.declared.lane.Lane.{Lane}
use Rattle.tm_trustee.specs.declared.stage.Stage.TheVariants.{Before, Out}

module _ {V O R T : Type 0} where
  -- an apply of an object that place c holds in an opening state
  abbrev pub AppliesHeld : State V O R T → ℕ → Request V O R T → Type 0
  AppliesHeld opening c (Apply n op) = 1 ≤ holds_at opening c n.id
  AppliesHeld opening c _ = ⊥

module _ {V O R T Table Client Owner : Type 0} (theory : Theory V O R T Table Client Owner) where
  -- a side may send what waits in a lane, and the lane has room for the replies to a batch
  pub record MaySendAsks (table : Table) (side : Client) (lane : Lane V O R T) : Type 0 where
    pub held : AllByRecursion (AppliesHeld (theory.opening table) (theory.client_view side).place) lane.waits.items
    pub unsaid : lane.waits.items ≢ [] → has_bye (theory.client_view side).sent ≡ false
    pub room : lane.came.capacity ≡ MOST_REQUESTS
    pub told : lane.came.items ≡ []

  -- where `sent` holds it published the first asks that wait; else none waits, and nothing was done
  abbrev pub SendsWaits : Table → Table → Client → Client → Lane V O R T → Lane V O R T → Bool → Type 0
  SendsWaits was now old new lane becomes sent =
      ((sent ≡ true) × (lane.waits.items ≢ [])
      × ((batch : Batch V O R T) × LetsGo batch.requests.items lane becomes × (batch.room ≡ 0)
      × Publishes batch.requests.items batch.room (theory.client_view old) (theory.client_view new)
      × theory.Did (Publish (theory.client_view old).place batch) was now × KeepsSides theory was now old new))
      ⊎ ((sent ≡ false) × (lane.waits.items ≡ []) × (now ≡ was) × (new ≡ old) × (becomes ≡ lane))

  -- answers came to a side
  abbrev pub TakesAnswers : Table → Table → Client → Client → Lane V O R T → Lane V O R T → Type 0
  TakesAnswers was now old new lane becomes =
      (a : AnswerBatch V O R T) × Gets a (theory.client_view old) (theory.client_view new) × TakesIn a.answers.items lane becomes
      × theory.Did (Collect (theory.client_view old).place (Some a)) was now × KeepsSides theory was now old new

  -- a side looked, and found nothing
  abbrev pub FindsNothing : Table → Table → Client → Client → Lane V O R T → Lane V O R T → Type 0
  FindsNothing was now old new lane becomes =
      IsPending (theory.client_view old) (theory.client_view new) × (becomes ≡ lane)
      × theory.Did (Collect (theory.client_view old).place None) was now × KeepsSides theory was now old new

  -- nothing was out, and a side sent the first of what waits, if anything does
  abbrev pub SendsFirst : Table → Table → Client → Client → Lane V O R T → Lane V O R T → Type 0
  SendsFirst was now old new lane becomes =
      ((theory.client_view old).out ≡ None)
      × ((mid : Client) × (sent : Bool) × (theory.client_view mid ≡ theory.client_view old) × KeepsSides theory was was old mid
      × SendsWaits was now mid new lane becomes sent)

  abbrev pub ExchangesLane : Table → Table → Client → Client → Lane V O R T → Lane V O R T → Type 0
  ExchangesLane was now old new lane becomes =
      TakesAnswers was now old new lane becomes ⊎ FindsNothing was now old new lane becomes ⊎ SendsFirst was now old new lane becomes

  -- where no Bye was said nothing is out and nothing waits
  abbrev pub MaySayBye : Table → Client → Lane V O R T → Type 0
  MaySayBye table side lane = lane.stage ≡ Before → (theory.client_view side).out ≡ None

  -- it says Bye, unless it has
  abbrev pub SaysByeLane : Table → Table → Client → Client → Lane V O R T → Lane V O R T → Type 0
  SaysByeLane was now old new lane becomes =
      ((has_bye (theory.client_view old).sent ≡ false) × (lane.stage ≡ Before) × (becomes ≡ record lane { stage = Out })
      × SaysByeAt theory (Unit {0}) was now old new)
      ⊎ ((has_bye (theory.client_view old).sent ≢ false) × (becomes ≡ lane) × SaysByeAt theory (Unit {0}) was now old new)
