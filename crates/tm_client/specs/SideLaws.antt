-- What a client's side tells of what it sent, got and saw: the statements, each proved as the contract of a function that cites it.
use Rattle.std.specs.Prelude.{◌≡◌, ◌≢◌, ℕ, ◌+◌, ◌<◌, ◌≤◌, true, false, List, [], ◌∷◌, ◌++◌}
use Rattle.std.specs.List.{AllByRecursion, AllZip}
use Rattle.tm_seq.specs.Kind.{Kind}
use Rattle.tm_batch.specs.declared.limits.TheConstants.{WINDOW}
use Rattle.tm_batch.specs.declared.message.Request.{Request}
use Rattle.tm_batch.specs.declared.message.Request.TheVariants.{Bye}
use Rattle.tm_batch.specs.declared.message.Answer.{Answer}
use Rattle.tm_batch.specs.declared.message.AnswerBatch.{AnswerBatch}
use Rattle.tm_model.specs.State.{State, IsHeld}
use Rattle.tm_model.specs.Serve.{state_after}
use Rattle.tm_model.specs.Ran.{ran, answered}
use Rattle.tm_model.specs.Holds.{has_bye, launches_in, gave, brought_by, gifts_of, answers_in, ended_in, came}
use Rattle.tm_model.specs.Orderly.{GrantsBelow, IsOrderly}
use Rattle.tm_model.specs.Fits.{Fits}
use Rattle.tm_pair.specs.Views.{ClientView}
use Rattle.tm_pair.specs.Sides.{IsGoodClient}
use Rattle.tm_pair.specs.Calls.{Publishes, Gets}
use Rattle.tm_client.specs.Lanes.{out_requests, bringing, IsAccepted, AreHeld}
use Rattle.tm_client.specs.Clients.{brings}

module _ {V O R T : Type 0} where
  -- how many of some answers may bring a trust when they are taken
  abbrev pub brings_in : List (Answer V O R T) → ℕ
  brings_in [] = 0
  brings_in (a ∷ answers) = brings a + brings_in answers

  -- what the answers a to the batch b of a side brought
  pub record Brings (opening : State V O R T) (b : List (Request V O R T)) (a : AnswerBatch V O R T) (old new : ClientView V O R T) : Type 0 where
    -- each answer is one to the request of its position, and no work ends that was not launched
    pub fits : AllZip Fits b a.answers.items
    -- what waits is still held
    pub held : (waits : List (Request V O R T)) → AreHeld opening old waits → AreHeld opening new waits
    pub ends : launches_in new.sent ≡ 0 → a.completions.items ≡ []
    -- as many answers may bring a trust as requests
    pub bring : brings_in a.answers.items ≡ bringing b
    -- what came grew by what they brought, and by the gifts
    pub came_to : (id : ℕ)
        → came opening new.place new.sent new.got id
        ≡ came opening old.place old.sent old.got id + (brought_by id b a.answers.items + gifts_of id a.gifts.items)

  module _ (kind : Kind V O R T) where
    -- what waits may go, its first first, where no more launches lack their completion then than the window
    abbrev pub WaitsMayGo : Type 0
    WaitsMayGo =
        (opening : State V O R T) (view : ClientView V O R T) (b rest : List (Request V O R T)) → IsGoodClient kind opening view
        → view.place < opening.setup.config.clients → launches_in (view.sent ++ b) ≤ WINDOW + ended_in view.got → (has_bye view.sent ≡ true → b ++ rest ≡ [])
        → AllByRecursion IsAccepted (b ++ rest) → AllByRecursion (GrantsBelow opening.setup.config.clients) (b ++ rest)
        → AreHeld opening view (b ++ rest)
        → IsOrderly opening view.place view.sent view.got b

    -- where it went, the rest is held behind it
    abbrev pub RestIsHeld : Type 0
    RestIsHeld =
        (opening : State V O R T) (old new : ClientView V O R T) (b rest : List (Request V O R T)) (room : ℕ) → IsGoodClient kind opening old
        → Publishes b room old new → AreHeld opening old (b ++ rest)
        → AreHeld opening new rest × ((id : ℕ) → came opening new.place new.sent new.got id ≡ came opening old.place old.sent old.got id)

    -- a Bye alone may go where none was sent and no launch lacks its completion
    abbrev pub ByesMayGo : Type 0
    ByesMayGo =
        (opening : State V O R T) (view : ClientView V O R T) → IsGoodClient kind opening view
        → view.place < opening.setup.config.clients → launches_in view.sent ≡ ended_in view.got → has_bye view.sent ≡ false
        → IsOrderly opening view.place view.sent view.got (Bye ∷ [])

    -- what a collect brought
    abbrev pub CollectsBring : Type 0
    CollectsBring =
        (opening : State V O R T) (old new : ClientView V O R T) (a : AnswerBatch V O R T)
        → IsGoodClient kind opening old → IsGoodClient kind opening new → Gets a old new
        → Brings opening (out_requests old.out) a old new

    -- each answer that a side got is that of the entry of its own request in the log that it has seen
    abbrev pub AnswersAreOfEntries : Type 0
    AnswersAreOfEntries =
        (opening : State V O R T) (view : ClientView V O R T) → IsGoodClient kind opening view
        → (view.sent ≡ ran view.place view.seen ++ out_requests view.out) × (answers_in view.got ≡ answered view.place view.seen)
        × AllZip Fits (ran view.place view.seen) (answers_in view.got)

    -- until its Bye, what a side holds by what it sent and got is live and held in the state that the seen log leaves
    abbrev pub HeldIsLive : Type 0
    HeldIsLive =
        (opening : State V O R T) (view : ClientView V O R T) (id : ℕ) → IsGoodClient kind opening view → has_bye view.sent ≢ true
        → gave id view.sent < came opening view.place view.sent view.got id
        → IsHeld (state_after kind opening view.seen) view.place id
