-- A client whose turns found nothing is as it was, but for its looks.
use Rattle.std.proofs.Common.{◌≡◌, ◌≢◌, ℕ, inl, inr, List, [], ◌∷◌, length, refl, sym, ◌∙◌, ap, subst, arith}
use Rattle.std.specs.Prelude.{slice_get, IsSomeAnd}
use Rattle.std.specs.declared.option.Option.{Option}
use Rattle.std.specs.declared.option.Option.TheVariants.{Some, None}
use Rattle.std.proofs.lemmas.Option.{slice_get_within}
use Rattle.tm_batch.specs.declared.limits.TheConstants.{WINDOW}
use Rattle.tm_client.specs.Asking.{IsFull}
use Rattle.tm_client.proofs.Elements.{element_at}
use Rattle.tm_asking.specs.Asking.{NoneCounts}
use Rattle.mc_next.specs.declared.piece.Piece.{Piece}
use Rattle.mc_next.specs.declared.work.Work.{Work}
use Rattle.mc_next.specs.Parts.{StoreView}
use Rattle.mc_next.specs.Clients.{StoreBooks, StoreLane}
use Rattle.mc_next.specs.Works.{left_of, named_by, question_of, IsFullFor}
use Rattle.mc_next.specs.Steps.{IsLanePending, AllPending, IsLaneStill, IsClientStill, NextIsFull}

-- a fact of what an option holds goes over to another one that holds something where it does
over_some : {X : Type 0} (o p : Option X) (P Q : X → Type 0) → ((x : X) → o ≡ Some x → (y : X) × (p ≡ Some y) × (P x → Q y)) → IsSomeAnd o P → IsSomeAnd p Q
over_some None p P Q f h = absurd h
over_some (Some x) p P Q f h = let (y, e, go) = f x refl in subst (λ o. IsSomeAnd o Q) (sym e) (go h)

module _ {D : Type 0} (view : D → StoreView) where
  counting_stays : (lane becomes : StoreLane D) → IsLanePending view lane becomes → becomes.counting ≡ lane.counting
  counting_stays lane becomes (inl (zero, same)) = ap (λ l. l.counting) same
  counting_stays lane becomes (inr (counts, pending, stays)) = ap (λ l. l.counting) stays

  lane_still : (lane becomes : StoreLane D) → IsLanePending view lane becomes → IsLaneStill view lane becomes
  lane_still lane becomes (inl (zero, same)) = record {
    sent = ap (λ l. (view l.side).sent) same;
    out = ap (λ l. (view l.side).out) same;
    got = ap (λ l. (view l.side).got) same;
    waits = ap (λ l. l.waits) same;
  }
  lane_still lane becomes (inr (counts, pending, stays)) =
      let (batch, was, is) = pending.out in record {
        sent = pending.sent;
        out = is ∙ sym was;
        got = pending.got;
        waits = ap (λ l. l.waits) stays;
      }

  module _ (old new : StoreBooks D) (p : AllPending view old new) where
    pub client_still : IsClientStill view old new
    client_still = record { lanes = λ t lane becomes e f. lane_still lane becomes (p.lanes t lane becomes e f); arrived = p.arrived }

    becomes_at : (t : ℕ) (lane : StoreLane D) → slice_get old.lanes.items t ≡ Some lane
        → (becomes : StoreLane D) × (slice_get new.lanes.items t ≡ Some becomes) × (becomes.counting ≡ lane.counting)
    becomes_at t lane e =
        let lt = slice_get_within old.lanes.items t lane e in
        let many = p.many in
        let (becomes, f) = element_at new.lanes.items t (omega (arith, lt, many)) in
        (becomes, f, counting_stays lane becomes (p.lanes t lane becomes e f))

    -- what counts counts still, and a full window is full still
    pub still_counts : ¬ (NoneCounts old) → ¬ (NoneCounts new)
    still_counts counts = λ none. counts (λ t lane e. let (becomes, f, same) = becomes_at t lane e in sym same ∙ none t becomes f)

    full_still : (t : ℕ) → IsFull old t → IsFull new t
    full_still t full =
        over_some (slice_get old.lanes.items t) (slice_get new.lanes.items t) (λ lane. lane.counting ≡ WINDOW) (λ lane. lane.counting ≡ WINDOW)
        (λ lane e. let (becomes, f, same) = becomes_at t lane e in (becomes, f, λ is. same ∙ is)) full

    pub next_full : (work : Option Work) → NextIsFull work old → NextIsFull work new
    next_full None full = tt
    next_full (Some w) full = λ piece others e.
        subst (λ n. IsFullFor n piece new) (sym p.many) (full_still (question_of (named_by []) (length old.lanes.items) piece).trustee (full piece others e))

some_of : {X : Type 0} (o : Option X) (P : X → Type 0) → IsSomeAnd o P → (x : X) × (o ≡ Some x) × P x
some_of None P h = absurd h
some_of (Some x) P h = (x, refl, h)

-- where a window is full, or one counts among those that are asked on
pub full_counts : {D : Type 0} (books : StoreBooks D) (t : ℕ) → IsFull books t → ¬ (NoneCounts books)
full_counts books t full = λ none.
    let (lane, e, is) = some_of (slice_get books.lanes.items t) (λ l. l.counting ≡ WINDOW) full in
    let zero_counts = none t lane e in
    absurd (omega (arith, is, zero_counts))

module _ {D : Type 0} (books : StoreBooks D) (w : Work) (full : NextIsFull (Some w) books) where
  first_counts : (xs : List Piece) → left_of w.todo ≡ xs → xs ≢ [] → ¬ (NoneCounts books)
  first_counts [] e some = absurd (some refl)
  first_counts (piece ∷ others) e some = full_counts books (question_of (named_by []) (length books.lanes.items) piece).trustee (full piece others e)

  pub left_counts : left_of w.todo ≢ [] → ¬ (NoneCounts books)
  left_counts some = first_counts (left_of w.todo) refl some
