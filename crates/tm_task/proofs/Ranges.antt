-- The trusts that tasks name where they ask or wait are there.
use Rattle.std.proofs.Common.{◌≡◌, ℕ, inl, inr, Bool, true, false, cond, List, [], ◌∷◌, ◌++◌, refl, sym, subst}
use Rattle.std.specs.Prelude.{nat_lt, slice_set}
use Rattle.std.specs.declared.option.Option.TheVariants.{None}
use borrow.Author.Tests.{ltb-true}
use Rattle.tm_client.proofs.Elements.{set_cases}
use Rattle.tm_task.specs.declared.deed.Deed.{Deed}
use Rattle.tm_task.specs.declared.deed.Deed.TheVariants.{Added, Started, Asked, Resumed, Turned}
use Rattle.tm_task.specs.declared.stage.Stage.{Stage}
use Rattle.tm_task.specs.declared.stage.Stage.TheVariants.{Fresh, Asks, Ended}
use Rattle.tm_task.specs.declared.task.Move.{Move}
use Rattle.tm_task.specs.declared.task.Move.TheVariants.{Apply, Done}
use Rattle.tm_task.specs.Going.{IsInRange, AreInRange}
use Rattle.tm_task.specs.Rules.{Rules}
use Rattle.tm_task.specs.Stages.{stage_of, Steps, Goes}
use Rattle.tm_task.proofs.Places.{push_cases}

module _ {V T U O R K : Type 0} (count : ℕ) where
  cond_in_range : (b : Bool) (x y : Stage V T U O R K) → (b ≡ true → IsInRange count x) → IsInRange count y → IsInRange count (cond b x y)
  cond_in_range true x y f h = f refl
  cond_in_range false x y f h = h

  -- after a move a task asks a trust that is there, or has ended
  pub move_in_range : (move : Move V T U O R K) → IsInRange count (stage_of count move)
  move_in_range (Apply i op task) = cond_in_range (nat_lt i count) (Asks i op task) (Ended None) (λ e. ltb-true i count e) tt
  move_in_range (Done out) = tt

  set_in_range : (stages : List (Stage V T U O R K)) (n : ℕ) (stage : Stage V T U O R K) → AreInRange count stages → IsInRange count stage
      → AreInRange count (slice_set stages n stage)
  set_in_range stages n stage all one k s e =
      elim (set_cases stages n k stage s e) [
        | inl h ↦ subst (λ x. IsInRange count x) (sym h.1) one
        | inr h ↦ all k s h.1
      ]

  push_in_range : (stages : List (Stage V T U O R K)) (task : T) → AreInRange count stages → AreInRange count (stages ++ Fresh task ∷ [])
  push_in_range stages task all k s e =
      elim (push_cases stages k (Fresh task) s e) [
        | inl h ↦ all k s h
        | inr h ↦ subst (λ x. IsInRange count x) (sym h) tt
      ]

  module _ (rules : Rules V T U O R K) where
    step_in_range : (d : Deed V T U O R K) (old new : List (Stage V T U O R K)) → Steps rules count d old new → AreInRange count old → AreInRange count new
    step_in_range (Added task) old new h all = subst (λ s. AreInRange count s) (sym h) (push_in_range old task all)
    step_in_range (Started n move) old new h all = subst (λ s. AreInRange count s) (sym h.now) (set_in_range old n _ all (move_in_range move))
    step_in_range (Asked n i op) old new h all =
        subst (λ s. AreInRange count s) (sym h.now) (set_in_range old n _ all (all n (Asks i op h.task) h.was))
    step_in_range (Resumed n got move) old new h all = subst (λ s. AreInRange count s) (sym h.now) (set_in_range old n _ all (move_in_range move))
    step_in_range (Turned t turn) old new h all = subst (λ s. AreInRange count s) (sym h) all

    pub going_in_range : (deeds : List (Deed V T U O R K)) (old new : List (Stage V T U O R K)) → Goes rules count deeds old new → AreInRange count old
        → AreInRange count new
    unfolding Goes
    going_in_range [] old new same all = subst (λ s. AreInRange count s) (sym same) all
    going_in_range (d ∷ deeds) old new (mid, step, rest) all = going_in_range deeds mid new rest (step_in_range d old mid step all)

    -- from the first task on they are
    pub all_in_range : (deeds : List (Deed V T U O R K)) (stages : List (Stage V T U O R K)) → Goes rules count deeds [] stages → AreInRange count stages
    all_in_range deeds stages goes = going_in_range deeds [] stages goes (λ k s e. absurd cc)
