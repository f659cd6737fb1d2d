-- A Bye among requests.
use Rattle.std.proofs.Common.{◌≡◌, ◌≢◌, ℕ, ◌⊎◌, List, [], ◌∷◌, ◌++◌, inl, inr, refl, subst}
use Rattle.tm_batch.specs.declared.message.Request.{Request}
use Rattle.tm_batch.specs.declared.message.Request.TheVariants.{Entrust, Apply, Launch, Grant, Release, Reclaim, Bye}
use Rattle.tm_model.specs.Holds.{Names, has_bye}

module _ {V O R T : Type 0} where
  -- a request stands in a list that is not empty
  pub not_in_none : (before after : List (Request V O R T)) (q : Request V O R T) → [] ≢ before ++ q ∷ after
  not_in_none [] after q e = cc
  not_in_none (x ∷ before) after q e = cc

  -- a Bye alone names no object
  pub bye_names : (before after : List (Request V O R T)) (q : Request V O R T) (id : ℕ) → Bye ∷ [] ≡ before ++ q ∷ after → ¬ Names q id
  bye_names [] after q id e names =
      let is : q ≡ Bye = cc in
      subst (λ (x : Request V O R T). Names x id) is names
  bye_names (x ∷ before) after q id e names =
      let rest : [] ≡ before ++ q ∷ after = cc in
      not_in_none before after q rest

  -- a request is a Bye, or adds none
  pub bye_or_not : (q : Request V O R T) → (q ≡ Bye) ⊎ ((q ≢ Bye) × ((qs : List (Request V O R T)) → has_bye (q ∷ qs) ≡ has_bye qs))
  bye_or_not Bye = inl refl
  bye_or_not (Entrust v) = inr (λ e. cc, λ qs. refl)
  bye_or_not (Apply i op) = inr (λ e. cc, λ qs. refl)
  bye_or_not (Launch i task) = inr (λ e. cc, λ qs. refl)
  bye_or_not (Grant i d) = inr (λ e. cc, λ qs. refl)
  bye_or_not (Release i) = inr (λ e. cc, λ qs. refl)
  bye_or_not (Reclaim i) = inr (λ e. cc, λ qs. refl)
