-- What a look at a place, and an answer, leave of a trustee's own side.
use Rattle.std.proofs.Common.{◌≡◌, ◌≢◌, ℕ, ◌+◌, ◌<◌, ◌≤◌, zero, suc, cond, Bool, true, false, List, length, slice_index_or, slice_set, inl, inr, refl, sym, ◌∙◌, ap, subst, arith, get_or-set_same, get_or-set_other, length-set}
use Rattle.std.specs.declared.option.Option.{Option}
use Rattle.std.specs.declared.option.Option.TheVariants.{None, Some}
use Rattle.std.proofs.lemmas.Bool.{cases_eq, cases_lt}
use Rattle.std.proofs.lemmas.List.{get_or_past}
use Rattle.tm_seq.specs.Kind.{Kind}
use Rattle.tm_batch.specs.declared.batch.Batch.{Batch}
use Rattle.tm_model.specs.State.{State, place_count}
use Rattle.tm_model.specs.Slots.{Looks, looked}
use Rattle.tm_pair.specs.Views.{BatchView, TrusteeView, hand_of, looks_at, no_looks}
use Rattle.tm_pair.specs.Calls.{LooksAt, Takes}
use Rattle.tm_pair.specs.Sides.{IsGoodTrustee}
use Rattle.tm_pair.specs.Theory.{Theory}
use Rattle.tm_trustee.specs.Places.{ServesPlace, ServesBelow, found_below}

pub at_most_one : (more : Bool) → cond more 1 0 ≤ 1
at_most_one true = omega arith
at_most_one false = omega arith

module _ {V O R T : Type 0} where
  -- a look tells what it found
  pub look_told :
      (c : ℕ) (found : Bool) (old new : TrusteeView V O R T) → c < length old.looks → LooksAt c found old new → looks_at new c ≡ looked found (looks_at old c)
  look_told c found old new lt is =
      ap (λ (looks : List Looks). slice_index_or looks c no_looks) is ∙ get_or-set_same old.looks c (looked found (looks_at old c)) no_looks lt

  -- it leaves those of other places
  pub look_other :
      (c d : ℕ) (found : Bool) (old new : TrusteeView V O R T) → d ≢ c → LooksAt c found old new → looks_at new d ≡ looks_at old d
  look_other c d found old new ne is =
      ap (λ (looks : List Looks). slice_index_or looks d no_looks) is ∙ get_or-set_other old.looks c d (looked found (looks_at old c)) no_looks ne

  -- a place without a hand
  set_none : (hands : List (Option (BatchView V O R T))) (c : ℕ) → slice_index_or (slice_set hands c None) c None ≡ None
  set_none hands c =
      elim (cases_lt c (length hands)) [
        | inl lt ↦ get_or-set_same hands c None None lt
        | inr ge ↦ get_or_past (slice_set hands c None) c None (subst (λ n. n ≤ c) (sym (length-set hands c None)) ge)
      ]

  -- where a batch was taken in hand and answered, no hand is left that was not there
  freed :
      (c : ℕ) (hand : Option (BatchView V O R T)) (hands : List (Option (BatchView V O R T))) → ((d : ℕ) → slice_index_or hands d None ≡ None)
      → (d : ℕ) → slice_index_or (slice_set (slice_set hands c hand) c None) d None ≡ None
  freed c hand hands free d =
      elim (cases_eq d c) [
        | inl e ↦ subst (λ k. slice_index_or (slice_set (slice_set hands c hand) c None) k None ≡ None) (sym e) (set_none (slice_set hands c hand) c)
        | inr ne ↦ get_or-set_other (slice_set hands c hand) c d None None ne ∙ get_or-set_other hands c d hand None ne ∙ free d
      ]

  module _ (kind : Kind V O R T) (opening : State V O R T) where
    -- a batch that was taken is in hand
    pub taken_in_hand :
        (old mid : TrusteeView V O R T) (c : ℕ) (batch : Batch V O R T)
        → IsGoodTrustee kind opening old → c < place_count opening.setup → Takes kind opening c batch.requests.items batch.room old mid
        → hand_of mid c ≡ Some (record { requests = batch.requests.items; room = batch.room })
    taken_in_hand old mid c batch good lt takes =
        ap (λ (hands : List (Option (BatchView V O R T))). slice_index_or hands c None) takes.hands
        ∙ get_or-set_same old.hands c (Some (record { requests = batch.requests.items; room = batch.room })) None (subst (λ n. c < n) (sym good.hands) lt)

    -- a look at a place of the table tells whether it found a batch
    pub found_told :
        (c : ℕ) (found : Bool) (old mid new : TrusteeView V O R T) → IsGoodTrustee kind opening old → c < place_count opening.setup
        → LooksAt c found old mid → new.looks ≡ mid.looks → found ≡ (looks_at new c).found
    found_told c found old mid new good lt looks same =
        let told : looks_at new c ≡ looked found (looks_at old c) =
        look_told c found old new (subst (λ n. c < n) (sym good.looks) lt) (same ∙ looks) in
        sym (ap (λ (l : Looks). l.found) told)

  -- what was found at lower places stays known
  same_found :
      (n : ℕ) (old new : TrusteeView V O R T) → ((c : ℕ) → c < n → looks_at new c ≡ looks_at old c) → found_below n new ≡ found_below n old
  unfolding found_below
  same_found zero old new same = refl
  same_found (suc n) old new same =
      let below : found_below n new ≡ found_below n old = same_found n old new (λ c lt. same c (omega (arith, lt))) in
      let here : looks_at new n ≡ looks_at old n = same n (omega arith) in
      ap (λ k. k + cond (looks_at new n).found 1 0) below ∙ ap (λ (l : Looks). found_below n old + cond l.found 1 0) here

  pub found_none : (view : TrusteeView V O R T) → found_below 0 view ≡ 0
  unfolding found_below
  found_none view = refl

module _ {V O R T Table Client Owner : Type 0} (theory : Theory V O R T Table Client Owner) (kind : Kind V O R T) (opening : State V O R T) where
  -- a place that was served is free, if all were
  pub served_frees :
      (c : ℕ) (was now : Table) (old new : Owner) → ServesPlace theory kind opening c was now old new
      → ((d : ℕ) → hand_of (theory.trustee_view old) d ≡ None) → (d : ℕ) → hand_of (theory.trustee_view new) d ≡ None
  served_frees c was now old new (inl passes) free d =
      ap (λ (hands : List (Option (BatchView V O R T))). slice_index_or hands d None) passes.sees.hands ∙ free d
  served_frees c was now old new (inr answers) free d =
      let hands = answers.replied.answered.hands ∙ ap (λ (hands : List (Option (BatchView V O R T))). slice_set hands c None) answers.takes.hands in
      ap (λ (hands : List (Option (BatchView V O R T))). slice_index_or hands d None) hands
      ∙ freed c (Some (record { requests = answers.batch.requests.items; room = answers.batch.room })) (theory.trustee_view old).hands free d

  -- serving a place looks at it once
  pub served_looks :
      (c : ℕ) (was now : Table) (old new : Owner) → ServesPlace theory kind opening c was now old new
      → (found : Bool) × LooksAt c found (theory.trustee_view old) (theory.trustee_view new)
  served_looks c was now old new (inl passes) = (false, passes.sees.looks)
  served_looks c was now old new (inr answers) = (true, answers.replied.answered.looks ∙ answers.takes.looks)

  pub found_one_more :
      (n : ℕ) (was now : Table) (old new : Owner) → ServesPlace theory kind opening n was now old new
      → found_below (n + 1) (theory.trustee_view new) ≡ found_below n (theory.trustee_view old) + cond (looks_at (theory.trustee_view new) n).found 1 0
  unfolding found_below
  found_one_more n was now old new serves =
      let before = theory.trustee_view old in
      let after = theory.trustee_view new in
      let (found, looks) = served_looks n was now old new serves in
      let below : found_below n after ≡ found_below n before =
      same_found n before after (λ c lt. look_other n c found before after (λ e. absurd (omega (arith, lt, e))) looks) in
      let e : suc n ≡ n + 1 = omega arith in
      subst (λ k. found_below k after ≡ found_below n before + cond (looks_at after n).found 1 0) e
      (ap (λ k. k + cond (looks_at after n).found 1 0) below)

  pub serves_one_more :
      (n : ℕ) (was between now : Table) (old mid new : Owner) → ServesBelow theory kind opening n was between old mid → theory.HasTrustee between mid
      → ServesPlace theory kind opening n between now mid new → ServesBelow theory kind opening (n + 1) was now old new
  unfolding ServesBelow
  serves_one_more n was between now old mid new below mine here =
      let all : ServesBelow theory kind opening (suc n) was now old new = (between, mid, below, mine, here) in
      let e : suc n ≡ n + 1 = omega arith in subst (λ k. ServesBelow theory kind opening k was now old new) e all

  pub serves_none : (was : Table) (old : Owner) → ServesBelow theory kind opening 0 was was old old
  unfolding ServesBelow
  serves_none was old = (refl, refl)
