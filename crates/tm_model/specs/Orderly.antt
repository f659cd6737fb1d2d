-- Which batches a place may send.
use Rattle.std.specs.Prelude.{◌≡◌, ℕ, ◌+◌, ◌<◌, ◌≤◌, true, List, [], ◌∷◌, ◌++◌}
use Rattle.std.specs.List.{AllByRecursion}
use Rattle.tm_batch.specs.declared.limits.TheConstants.{WINDOW}
use Rattle.tm_batch.specs.declared.message.Request.{Request}
use Rattle.tm_batch.specs.declared.message.Request.TheVariants.{Apply, Grant, Bye}
use Rattle.tm_batch.specs.declared.message.AnswerBatch.{AnswerBatch}
use Rattle.tm_model.specs.State.{State}
use Rattle.tm_model.specs.Holds.{Names, has_bye, launches_in, gave, ended_in, came}

module _ {V O R T : Type 0} where
  -- a grant is to a client
  abbrev pub GrantsBelow : ℕ → Request V O R T → Type 0
  GrantsBelow clients (Grant n d) = d < clients
  GrantsBelow clients _ = Unit {0}

  -- a request that a trustee may send
  abbrev pub IsOfTrustee : Request V O R T → Type 0
  IsOfTrustee (Apply n op) = Unit {0}
  IsOfTrustee Bye = Unit {0}
  IsOfTrustee _ = ⊥

  -- the batch b is orderly for place c, after it sent and got so much
  pub record IsOrderly (opening : State V O R T) (c : ℕ) (sent : List (Request V O R T)) (got : List (AnswerBatch V O R T))
      (b : List (Request V O R T)) : Type 0 where
    -- each id that a request names is still held after what was sent before it
    pub held : (before after : List (Request V O R T)) (q : Request V O R T) (id : ℕ)
        → b ≡ before ++ q ∷ after → Names q id → gave id (sent ++ before) < came opening c sent got id
    -- grants are to clients
    pub grants : AllByRecursion (GrantsBelow opening.setup.config.clients) b
    -- no more launches than the window lack their completion
    pub launches : launches_in (sent ++ b) ≤ WINDOW + ended_in got
    -- a Bye stands alone, when no launch lacks its completion
    pub bye : has_bye b ≡ true → (b ≡ Bye ∷ []) × (launches_in sent ≡ ended_in got)
    -- nothing follows a Bye
    pub last : has_bye sent ≡ true → b ≡ []
    -- a trustee sends applies and a Bye alone
    pub trustee : opening.setup.config.clients ≤ c → AllByRecursion IsOfTrustee b
