-- What left a lane since it was due may be sent.
use Rattle.std.proofs.Common.{◌≡◌, ℕ, inl, inr, List, [], ◌++◌, take, drop, sym, ◌∙◌, ap, subst}
use Rattle.std.proofs.lemmas.List.{take-append-drop}
use Rattle.tm_seq.specs.Kind.{Kind}
use Rattle.tm_batch.specs.declared.limits.TheConstants.{MOST_REQUESTS}
use Rattle.tm_batch.specs.declared.message.Request.{Request}
use Rattle.tm_model.specs.State.{State}
use Rattle.tm_pair.specs.Views.{ClientView}
use Rattle.tm_pair.specs.Sides.{IsGoodClient}
use Rattle.tm_pair.specs.Calls.{MaySend}
use Rattle.tm_pair.specs.Theory.{Theory}
use Rattle.tm_client.specs.declared.lane.Lane.{Lane}
use Rattle.tm_client.specs.Lanes.{IsLane}
use Rattle.tm_client.specs.Due.{ByeDue, FetchDue, NothingDue, Leaves}
use Rattle.tm_client.specs.Sending.{Goes}
use Rattle.tm_client.specs.Turns.{IsByeDue, IsFetchDue, IsDue}
use Rattle.tm_client.proofs.Sending.{front_may_go, bye_may_go}

module _ {V C D O R T : Type 0} where
  fronts : (b : List (Request V O R T)) (lane becomes : Lane V C D O R T) → b ≡ take MOST_REQUESTS lane.waits.items
      → becomes.waits.items ≡ drop MOST_REQUESTS lane.waits.items → lane.waits.items ≡ b ++ becomes.waits.items
  fronts b lane becomes first rest = sym (ap (λ l. l ++ becomes.waits.items) first ∙ ap (λ l. take MOST_REQUESTS lane.waits.items ++ l) rest ∙ take-append-drop MOST_REQUESTS lane.waits.items)

  nothing : (b : List (Request V O R T)) (lane becomes : Lane V C D O R T) → lane.waits.items ≡ [] → b ≡ [] → becomes.waits.items ≡ []
      → lane.waits.items ≡ b ++ becomes.waits.items
  nothing b lane becomes none empty rest = none ∙ sym (ap (λ l. l ++ becomes.waits.items) empty ∙ rest)

  pub left_goes : (b : List (Request V O R T)) (lane becomes : Lane V C D O R T) → Leaves b lane becomes → Goes b lane becomes
  left_goes b lane becomes (inl w) = inl (fronts b lane becomes w.1 w.2, w.3)
  left_goes b lane becomes (inr (inl y)) = inr (y.1, y.0.0, y.2, y.0.1, y.0.3, y.3)
  left_goes b lane becomes (inr (inr f)) = inl (nothing b lane becomes f.0.0 f.1 f.2, f.3)

  module _ (kind : Kind V O R T) (view : D → ClientView V O R T) (opening : State V O R T) (c n : ℕ) (lane : Lane V C D O R T)
      (was : IsLane view opening c n lane) (good : IsGoodClient kind opening (view lane.side)) (b : List (Request V O R T)) (becomes : Lane V C D O R T) where
    pub left_may_go : Leaves b lane becomes → MaySend opening (view lane.side) b
    left_may_go (inl w) = front_may_go kind view opening c n lane was good b becomes.waits.items (fronts b lane becomes w.1 w.2)
    left_may_go (inr (inl y)) = subst (MaySend opening (view lane.side)) (sym y.1) (bye_may_go kind view opening c n lane was good y.0.2 y.0.3)
    left_may_go (inr (inr f)) = front_may_go kind view opening c n lane was good b becomes.waits.items (nothing b lane becomes f.0.0 f.1 f.2)

  -- a lane says of its Bye what its side says
  module _ {Table Owner : Type 0} (theory : Theory V O R T Table D Owner) (opening : State V O R T) (c n : ℕ) (lane : Lane V C D O R T)
      (was : IsLane theory.client_view opening c n lane) where
    bye_told : IsByeDue theory lane → ByeDue lane
    bye_told y = (y.0, y.1, was.said ∙ y.2, y.3)

    bye_is : ByeDue lane → IsByeDue theory lane
    bye_is y = (y.0, y.1, sym was.said ∙ y.2, y.3)

    fetch_is : FetchDue lane → IsFetchDue theory lane
    fetch_is f = (f.0, λ y. f.1 (bye_told y), sym was.said ∙ f.2, f.3)

    fetch_told : IsFetchDue theory lane → FetchDue lane
    fetch_told f = (f.0, λ y. f.1 (bye_is y), was.said ∙ f.2, f.3)

    pub left_is_due : (b : List (Request V O R T)) (becomes : Lane V C D O R T) → Leaves b lane becomes → IsDue theory lane b becomes.waits.items
    left_is_due b becomes (inl w) = inl (w.0, w.1, w.2)
    left_is_due b becomes (inr (inl y)) = inr (inl (bye_is y.0, y.1, y.2))
    left_is_due b becomes (inr (inr f)) = inr (inr (fetch_is f.0, f.1, f.2))

    pub nothing_is_due : NothingDue lane → (lane.waits.items ≡ []) × (IsByeDue theory lane → ⊥) × (IsFetchDue theory lane → ⊥)
    nothing_is_due none = (none.0, λ y. none.1 (bye_told y), λ f. none.2 (fetch_told f))
