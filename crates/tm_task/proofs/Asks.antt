-- What counts at a trustee where a request was accepted or refused.
use Rattle.std.proofs.Common.{◌≡◌, ℕ, zero, suc, ◌<◌, ◌≤◌, true, false, List, [], ◌∷◌, sym, ◌∙◌, ap, subst, arith}
use Rattle.std.specs.Prelude.{slice_get, slice_set, IsSomeAnd}
use Rattle.std.specs.declared.option.Option.{Option}
use Rattle.std.specs.declared.option.Option.TheVariants.{None, Some}
use Rattle.tm_batch.specs.declared.message.Request.{Request}
use Rattle.tm_batch.specs.declared.limits.TheConstants.{WINDOW}
use Rattle.tm_client.specs.declared.answers.Why.{Why}
use Rattle.tm_client.specs.declared.answers.Why.TheVariants.{NotHeld, WindowFull, Closed, TrustsFull, NoClient}
use Rattle.tm_client.specs.declared.books.Books.{Books}
use Rattle.tm_client.specs.declared.lane.Lane.{Lane}
use Rattle.tm_client.specs.declared.trust.Trust.{Trust}
use Rattle.tm_client.specs.Asking.{IsHeldBy, IsOpen, ApplyWhy, HasAsked}
use Rattle.tm_task.specs.declared.stage.Stage.{Stage}
use Rattle.tm_task.specs.declared.stage.Stage.TheVariants.{Asks}
use Rattle.tm_task.specs.Progressing.{count_of, counting_at}
use Rattle.tm_task.proofs.Places.{read_some}

-- a number of the element at a place, which does not fall by a write
more_at_set : {X : Type 0} (f : Option X → ℕ) (xs : List X) (i k : ℕ) (x y : X) → slice_get xs i ≡ Some x → f (Some x) ≤ f (Some y)
    → f (slice_get xs k) ≤ f (slice_get (slice_set xs i y) k)
more_at_set f [] i k x y e more = absurd cc
more_at_set f (z ∷ xs) zero zero x y e more = let is : x ≡ z = cc in subst (λ w. f (Some w) ≤ f (Some y)) is more
more_at_set f (z ∷ xs) zero (suc k) x y e more = omega arith
more_at_set f (z ∷ xs) (suc i) zero x y e more = omega arith
more_at_set f (z ∷ xs) (suc i) (suc k) x y e more = more_at_set f xs i k x y e more

module _ {V O R K D : Type 0} where
  -- where a request was accepted no fewer count
  pub asked_more : (t0 : ℕ) (q : Request V O R K) (n : ℕ) (old new : Books V ℕ D O R K) → HasAsked t0 q n 0 old new
      → (t : ℕ) → counting_at old t ≤ counting_at new t
  asked_more t0 q n old new h t =
      subst (λ (l : List (Lane V ℕ D O R K)). counting_at old t ≤ count_of (slice_get l t)) (sym h.lanes)
      (more_at_set count_of old.lanes.items t0 t h.lane h.becomes h.of_lane (let one = h.accepts.counting in omega (arith, one)))

  not_both : (o : Option (Lane V ℕ D O R K)) → IsSomeAnd o (λ lane. lane.closing ≡ true) → IsSomeAnd o (λ lane. lane.closing ≡ false) → ⊥
  not_both None a b = absurd a
  not_both (Some lane) a b = let clash : true ≡ false = sym a ∙ b in absurd cc

  full_counts : (o : Option (Lane V ℕ D O R K)) → IsSomeAnd o (λ lane. lane.counting ≡ WINDOW) → WINDOW ≤ count_of o
  full_counts None a = absurd a
  full_counts (Some lane) a = omega (arith, a)

  -- where the window of a trustee has room
  pub room_counts : (o : Option (Lane V ℕ D O R K)) → IsSomeAnd o (λ lane. lane.counting < WINDOW) → count_of o < WINDOW
  room_counts None a = absurd a
  room_counts (Some lane) a = a

  -- where an operation was refused of a client that holds the trust and did not close there, the window there is full
  pub refused_counts : (books : Books V ℕ D O R K) (trust : Trust) (why : Why) → IsHeldBy books trust × IsOpen books trust.trustee → ApplyWhy books trust why
      → WINDOW ≤ counting_at books trust.trustee
  refused_counts books trust NotHeld may h = absurd (h may.0)
  refused_counts books trust Closed may h = absurd (not_both (slice_get books.lanes.items trust.trustee) h.1 may.1)
  refused_counts books trust WindowFull may h = full_counts (slice_get books.lanes.items trust.trustee) h.2
  refused_counts books trust TrustsFull may h = absurd h
  refused_counts books trust NoClient may h = absurd h

module _ {V T U O R K D : Type 0} where
  -- a task that is to ask, at a trustee whose window is full
  pub blocked_by : (stages : List (Stage V T U O R K)) (trusts : List Trust) (n i0 : ℕ) (op0 : O) (task0 : T) (books : Books V ℕ D O R K) (trust : Trust)
      → slice_get stages n ≡ Some (Asks i0 op0 task0) → slice_get trusts i0 ≡ Some trust → WINDOW ≤ counting_at books trust.trustee
      → (i : ℕ) (op : O) (task : T) → slice_get stages n ≡ Some (Asks i op task)
      → (t : Trust) × (slice_get trusts i ≡ Some t) × (WINDOW ≤ counting_at books t.trustee)
  blocked_by stages trusts n i0 op0 task0 books trust at of some i op task e =
      let same : Asks i0 op0 task0 ≡ Asks i op task = read_some stages n (Asks i0 op0 task0) (Asks i op task) at e in
      let is : i0 ≡ i = cc in
      (trust, ap (λ k. slice_get trusts k) (sym is) ∙ of, some)
