-- Which answer may come to which request, whatever the state.
use Rattle.std.specs.Prelude.{◌≡◌}
use Rattle.tm_batch.specs.declared.message.Request.{Request}
use Rattle.tm_batch.specs.declared.message.Request.TheVariants.{Entrust, Apply, Launch, Grant, Release, Reclaim, Bye}
use Rattle.tm_batch.specs.declared.message.Answer.{Answer}
use Rattle.tm_batch.specs.declared.message.Answer.TheVariants.{Entrusted, NotEntrusted, Replied, Launched, TicketsSpent, Granted, Gone, GiftsFull, Released, Reclaimed, Shared, ByeDone}

module _ {V O R T : Type 0} where
  -- an answer is one to such a request; a value or a task that was not taken comes back
  abbrev pub Fits : Request V O R T → Answer V O R T → Type 0
  Fits (Entrust v) (Entrusted name) = Unit {0}
  Fits (Entrust v) (NotEntrusted refusal back) = back ≡ v
  Fits (Apply n op) (Replied r) = Unit {0}
  Fits (Launch n task) (Launched ticket) = Unit {0}
  Fits (Launch n task) (TicketsSpent back) = back ≡ task
  Fits (Grant n d) Granted = Unit {0}
  Fits (Grant n d) Gone = Unit {0}
  Fits (Grant n d) GiftsFull = Unit {0}
  Fits (Release n) Released = Unit {0}
  Fits (Reclaim n) (Reclaimed v) = Unit {0}
  Fits (Reclaim n) Shared = Unit {0}
  Fits Bye ByeDone = Unit {0}
  Fits _ _ = ⊥
