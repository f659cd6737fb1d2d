-- What serving the places of a table makes of the batches that wait there, and of the boxes where it finds none.
use Rattle.std.proofs.Common.{◌≡◌, ℕ, zero, suc, ◌+◌, ◌≤◌, ◌<◌, inl, inr, Bool, true, false, cond, List, [], ◌∷◌, slice_index_or, refl, sym, ◌∙◌, ap, subst, arith}
use Rattle.std.specs.Prelude.{slice_set}
use Rattle.std.proofs.lemmas.Bool.{cases_eq}
use Rattle.tm_seq.specs.Kind.{Kind}
use Rattle.tm_model.specs.State.{State, place_count}
use Rattle.tm_model.specs.Slots.{Looks, slot_of, is_asked}
use Rattle.tm_model.specs.Good.{FullCore}
use Rattle.tm_pair.specs.Views.{looks_at, no_looks}
use Rattle.tm_pair.specs.Sides.{IsGoodTrustee}
use Rattle.tm_pair.specs.Plain.{opening_at, core_at, trustee_at, IsTrusteeOf, plain_theory}
use Rattle.tm_pair.specs.declared.plain.PlainTable.{PlainTable}
use Rattle.tm_pair.specs.declared.plain.PlainTrustee.{PlainTrustee}
use Rattle.tm_trustee.specs.Places.{ServesPlace, ServesBelow, found_below}
use Rattle.tm_trustee.proofs.Serving.{found_told, found_one_more}
use Rattle.tm_turns.proofs.Asked.{see_none}
use Rattle.tm_turns.proofs.Ones.{one_of}

pub passed_found : (looks : List Looks) (c : ℕ) (l : Looks) → l.found ≡ false → (slice_index_or (slice_set looks c l) c no_looks).found ≡ false
passed_found [] c l e = refl
passed_found (x ∷ looks) zero l e = e
passed_found (x ∷ looks) (suc c) l e = passed_found looks c l e

module _ {V O R T : Type 0} (kind : Kind V O R T) (opening : State V O R T) where
  -- where it found none at place c, none was there, and the boxes and the log stay
  pub record PlacesStay (n : ℕ) (was now : PlainTable V O R T) (old new : PlainTrustee V O R T) : Type 0 where
    pub none : (c : ℕ) → c < n → is_asked (slot_of (core_at now) c).box ≡ false
    pub boxes : (c : ℕ) → (slot_of (core_at now) c).box ≡ (slot_of (core_at was) c).box
    pub log : (trustee_at new).log ≡ (trustee_at old).log
    pub opens : opening_at now ≡ opening_at was

  none_found :
      (c : ℕ) (was now : PlainTable V O R T) (old new : PlainTrustee V O R T) → IsTrusteeOf kind was old → opening_at was ≡ opening
      → c < place_count opening.setup → (looks_at (trustee_at new) c).found ≡ false
      → ServesPlace (plain_theory kind) kind opening c was now old new
      → (is_asked (slot_of (core_at was) c).box ≡ false) × ((k : ℕ) → (slot_of (core_at now) k).box ≡ (slot_of (core_at was) k).box)
      × ((trustee_at new).log ≡ (trustee_at old).log) × (opening_at now ≡ opening_at was)
  none_found c was now old new mine opens lt none (inl passes) =
      let free : is_asked (slot_of (core_at was) c).box ≡ false = passes.saw.may in (
        free,
        λ k. ap (λ (core : FullCore V O R T). (slot_of core k).box) passes.saw.core ∙ see_none (core_at was) c k free,
        passes.sees.log,
        passes.keeps.opening,
      )
  none_found c was now old new mine opens lt none (inr answers) =
      let good : IsGoodTrustee kind opening (trustee_at old) = subst (λ s. IsGoodTrustee kind s (trustee_at old)) opens mine.is_good in
      let told : true ≡ (looks_at (trustee_at new) c).found =
      found_told kind opening c true (trustee_at old) (trustee_at answers.mid) (trustee_at new) good lt answers.takes.looks answers.replied.answered.looks in
      absurd cc

  is_none : (b : Bool) → one_of b ≡ 0 → b ≡ false
  is_none true e = absurd (omega (arith, e))
  is_none false e = refl

  pub places_stay :
      (n : ℕ) (was now : PlainTable V O R T) (old new : PlainTrustee V O R T) → opening_at was ≡ opening → IsTrusteeOf kind was old
      → n ≤ place_count opening.setup → found_below n (trustee_at new) ≡ 0
      → ServesBelow (plain_theory kind) kind opening n was now old new → PlacesStay n was now old new
  unfolding ServesBelow found_below
  places_stay zero was now old new opens mine most none is = record {
    none = λ c lt. absurd (omega (arith, lt));
    boxes = λ c. ap (λ (x : PlainTable V O R T). (slot_of (core_at x) c).box) is.0;
    log = ap (λ (x : PlainTrustee V O R T). (trustee_at x).log) is.1;
    opens = ap (λ (x : PlainTable V O R T). opening_at x) is.0;
  }
  places_stay (suc n) was now old new opens mine most none serves =
      let (between, mid, below, its, here) = serves in
      let e : n + 1 ≡ suc n = omega arith in
      let more : found_below (suc n) (trustee_at new) ≡ found_below n (trustee_at mid) + cond (looks_at (trustee_at new) n).found 1 0 =
      subst (λ k. found_below k (trustee_at new) ≡ found_below n (trustee_at mid) + cond (looks_at (trustee_at new) n).found 1 0) e
      (found_one_more (plain_theory kind) kind opening n between now mid new here) in
      let rest = places_stay n was between old mid opens mine (omega (arith, most)) (omega (arith, none, more)) below in
      let nothing : (looks_at (trustee_at new) n).found ≡ false = is_none (looks_at (trustee_at new) n).found (omega (arith, none, more)) in
      let (free, boxes, log, kept) = none_found n between now mid new its (rest.opens ∙ opens) (omega (arith, most)) nothing here in
      record {
        none = λ c lt.
            elim (cases_eq c n) [
              | inl at ↦ subst (λ k. is_asked (slot_of (core_at now) k).box ≡ false) (sym at) (ap (λ b. is_asked b) (boxes n) ∙ free)
              | inr ne ↦ ap (λ b. is_asked b) (boxes c) ∙ rest.none c (omega (arith, lt, ne))
            ];
        boxes = λ c. boxes c ∙ rest.boxes c;
        log = log ∙ rest.log;
        opens = kept ∙ rest.opens;
      }
