-- Trustees launch nothing.
use Rattle.std.proofs.Common.{◌≡◌, List, [], ◌∷◌, refl}
use Rattle.std.specs.List.{AllByRecursion}
use Rattle.tm_batch.specs.declared.message.Request.{Request}
use Rattle.tm_batch.specs.declared.message.Request.TheVariants.{Entrust, Apply, Launch, Grant, Release, Reclaim, Bye}
use Rattle.tm_model.specs.Holds.{launches_in}
use Rattle.tm_model.specs.Orderly.{IsOfTrustee}

module _ {V O R T : Type 0} where
  -- applies and Byes launch nothing
  pub launches_none : (qs : List (Request V O R T)) → AllByRecursion IsOfTrustee qs → launches_in qs ≡ 0
  launches_none [] all = refl
  launches_none (Apply n op ∷ qs) all = launches_none qs all.1
  launches_none (Bye ∷ qs) all = launches_none qs all.1
  launches_none (Entrust v ∷ qs) all = absurd all.0
  launches_none (Launch n task ∷ qs) all = absurd all.0
  launches_none (Grant n d ∷ qs) all = absurd all.0
  launches_none (Release n ∷ qs) all = absurd all.0
  launches_none (Reclaim n ∷ qs) all = absurd all.0
