-- A client at first holds its trusts, and no request of it counts.
use Rattle.std.proofs.Common.{◌≡◌, ℕ, zero, suc, ◌<◌, false, List, [], ◌∷◌, length, map, refl, sym, ◌∙◌, ap, subst, arith}
use Rattle.std.specs.Prelude.{slice_get, IsSomeAnd}
use Rattle.std.specs.List.{AllZip}
use Rattle.tm_batch.specs.declared.config.Config.{Config}
use Rattle.tm_batch.specs.declared.message.Name.{Name}
use Rattle.tm_model.specs.State.{State}
use Rattle.tm_pair.specs.Views.{ClientView}
use Rattle.tm_client.specs.declared.books.Books.{Books}
use Rattle.tm_client.specs.declared.lane.Lane.{Lane}
use Rattle.tm_client.specs.declared.trust.Trust.{Trust}
use Rattle.tm_client.specs.Asking.{IsHeldBy, IsOpen}
use Rattle.tm_client.specs.Begun.{HasBegun, IsFirstTrust, new_lane}
use Rattle.tm_client.specs.Clients.{IsClient}
use Rattle.tm_client.specs.Listing.{hold_of}
use Rattle.tm_task.specs.declared.stage.Stage.{Stage}
use Rattle.tm_task.specs.Ours.{of_arrived, of_launched, of_waiting, launched_at, waiting_at, counting_for, awaits, AreTheirs, HoldsOpen}

-- nothing waits at a lane as at first, no launch lacks its completion, and it is open
none_waits :
    (V O R K : Type 0) {D : Type 0} (n id : ℕ) (sides : List D) (t : ℕ)
    → of_waiting n id (waiting_at (slice_get (map (new_lane {V = V} {C = ℕ} {D = D} {O = O} {R = R} {T = K}) sides) t)) ≡ 0
none_waits V O R K n id [] t = refl
none_waits V O R K n id (side ∷ sides) zero = refl
none_waits V O R K n id (side ∷ sides) (suc t) = none_waits V O R K n id sides t

none_launched :
    (V O R K : Type 0) {D : Type 0} (n id : ℕ) (sides : List D) (t : ℕ)
    → of_launched n id (launched_at (slice_get (map (new_lane {V = V} {C = ℕ} {D = D} {O = O} {R = R} {T = K}) sides) t)) ≡ 0
none_launched V O R K n id [] t = refl
none_launched V O R K n id (side ∷ sides) zero = refl
none_launched V O R K n id (side ∷ sides) (suc t) = none_launched V O R K n id sides t

is_open :
    (V O R K : Type 0) {D : Type 0} (sides : List D) (t : ℕ)
    → t < length (map (new_lane {V = V} {C = ℕ} {D = D} {O = O} {R = R} {T = K}) sides)
    → IsSomeAnd (slice_get (map (new_lane {V = V} {C = ℕ} {D = D} {O = O} {R = R} {T = K}) sides) t) (λ lane. lane.closing ≡ false)
is_open V O R K [] t lt = absurd (omega (arith, lt))
is_open V O R K (side ∷ sides) zero lt = refl
is_open V O R K (side ∷ sides) (suc t) lt = is_open V O R K sides t (omega (arith, lt))

module _ {V O R K D : Type 0} where
  module _ (number : ℕ) (config : Config) (sides : List D) (held : List (ℕ × Name)) (books : Books V ℕ D O R K)
      (begun : HasBegun number config sides held books) where
    none_counts : (n t id : ℕ) → counting_for n t id books ≡ 0
    none_counts n t id =
        let waits = ap (λ xs. of_waiting n id (waiting_at (slice_get xs t))) begun.lanes ∙ none_waits V O R K n id sides t in
        let launched = ap (λ xs. of_launched n id (launched_at (slice_get xs t))) begun.lanes ∙ none_launched V O R K n id sides t in
        let arrived : of_arrived n t id books.arrived.items ≡ 0 = ap (λ a. of_arrived n t id a.items) begun.arrived in
        omega (arith, waits, launched, arrived)

    -- where there are no tasks
    pub theirs_first : {W U : Type 0} (trusts : List Trust) (stages : List (Stage V W U O R K)) → stages ≡ [] → AreTheirs trusts stages books
    theirs_first {W = W} {U = U} trusts stages none = λ n t id.
        none_counts n t id ∙ ap (λ (xs : List (Stage V W U O R K)). awaits trusts t id (slice_get xs n)) (sym none)

    module _ (view : D → ClientView V O R K) (openings : ℕ → State V O R K) (is : IsClient view openings books) where
      one_open : (trust : Trust) → IsHeldBy books trust → IsOpen books trust.trustee
      one_open trust (of, there) =
          let (at, e) = there in
          let lt : trust.trustee < length books.lanes.items = is.held at (hold_of trust.trustee trust.name) e in
          subst (λ xs. IsSomeAnd (slice_get xs trust.trustee) (λ (l : Lane V ℕ D O R K). l.closing ≡ false)) (sym begun.lanes)
          (is_open V O R K sides trust.trustee (subst (λ xs. trust.trustee < length xs) begun.lanes lt))

      pub holds_first : (names : List (ℕ × Name)) (trusts : List Trust) → AllZip (IsFirstTrust books) names trusts → HoldsOpen books trusts
      holds_first [] [] all = tt
      holds_first (name ∷ names) (trust ∷ trusts) all = ((all.0.listed, one_open trust all.0.listed), holds_first names trusts all.1)
      holds_first [] (trust ∷ trusts) all = absurd all
      holds_first (name ∷ names) [] all = absurd all
