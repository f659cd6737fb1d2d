-- What serving the places below a number leaves of a trustee's looks and log.
use Rattle.std.proofs.Common.{◌≡◌, ℕ, ◌+◌, ◌<◌, ◌≤◌, zero, suc, cond, List, [], ◌++◌, length, inl, inr, sym, ◌∙◌, ap, subst, arith, append_assoc, append-nil, length-set}
use Rattle.std.specs.Prelude.{IsSomeAnd}
use Rattle.std.specs.declared.option.Option.{Option}
use Rattle.std.specs.declared.option.Option.TheVariants.{None, Some}
use Rattle.std.proofs.lemmas.Bool.{cases_eq}
use Rattle.tm_seq.specs.Kind.{Kind}
use Rattle.tm_model.specs.declared.entry.Entry.{Entry}
use Rattle.tm_model.specs.State.{State}
use Rattle.tm_model.specs.Lists.{IsPrefix}
use Rattle.tm_model.specs.Slots.{Looks, looked}
use Rattle.tm_model.specs.Entries.{added}
use Rattle.tm_pair.specs.Views.{BatchView, TrusteeView, looks_at}
use Rattle.tm_pair.specs.Theory.{Theory}
use Rattle.tm_trustee.specs.Places.{ServesPlace, ServesBelow, found_below}
use Rattle.tm_trustee.proofs.Serving.{at_most_one, look_told, look_other, served_looks}

module _ {V O R T Table Client Owner : Type 0} (theory : Theory V O R T Table Client Owner) (kind : Kind V O R T) (opening : State V O R T) where
  -- each serving of a place keeps how many looks there are
  as_many_looks :
      (c : ℕ) (was now : Table) (old new : Owner) → ServesPlace theory kind opening c was now old new
      → length (theory.trustee_view new).looks ≡ length (theory.trustee_view old).looks
  as_many_looks c was now old new serves =
      let (found, looks) = served_looks theory kind opening c was now old new serves in
      ap (λ (l : List Looks). length l) looks ∙ length-set (theory.trustee_view old).looks c (looked found (looks_at (theory.trustee_view old) c))

  pub as_many_below :
      (n : ℕ) (was now : Table) (old new : Owner) → ServesBelow theory kind opening n was now old new
      → length (theory.trustee_view new).looks ≡ length (theory.trustee_view old).looks
  unfolding ServesBelow
  as_many_below zero was now old new none = ap (λ (side : Owner). length (theory.trustee_view side).looks) none.1
  as_many_below (suc n) was now old new serves =
      let (between, mid, below, mine, here) = serves in as_many_looks n between now mid new here ∙ as_many_below n was between old mid below

  -- places from n on were not looked at
  past_below :
      (n c : ℕ) (was now : Table) (old new : Owner) → ServesBelow theory kind opening n was now old new → n ≤ c
      → looks_at (theory.trustee_view new) c ≡ looks_at (theory.trustee_view old) c
  unfolding ServesBelow
  past_below zero c was now old new none le = ap (λ (side : Owner). looks_at (theory.trustee_view side) c) none.1
  past_below (suc n) c was now old new serves le =
      let (between, mid, below, mine, here) = serves in
      let (found, looks) = served_looks theory kind opening n between now mid new here in
      look_other n c found (theory.trustee_view mid) (theory.trustee_view new) (λ e. absurd (omega (arith, le, e))) looks ∙ past_below n c was between old mid below (omega (arith, le))

  -- each place below n was looked at once
  pub looked_below :
      (n c : ℕ) (was now : Table) (old new : Owner) → ServesBelow theory kind opening n was now old new
      → n ≤ length (theory.trustee_view old).looks → c < n → (looks_at (theory.trustee_view new) c).count ≡ (looks_at (theory.trustee_view old) c).count + 1
  unfolding ServesBelow
  looked_below zero c was now old new none most lt = absurd (omega (arith, lt))
  looked_below (suc n) c was now old new serves most lt =
      let (between, mid, below, mine, here) = serves in
      let (found, looks) = served_looks theory kind opening n between now mid new here in
      elim (cases_eq c n) [
        | inl at ↦
            let many : length (theory.trustee_view mid).looks ≡ length (theory.trustee_view old).looks = as_many_below n was between old mid below in
            let told : looks_at (theory.trustee_view new) n ≡ looked found (looks_at (theory.trustee_view mid) n) = look_told n found (theory.trustee_view mid) (theory.trustee_view new) (omega (arith, many, most)) looks in
            let before : looks_at (theory.trustee_view mid) n ≡ looks_at (theory.trustee_view old) n = past_below n n was between old mid below (omega arith) in
            subst (λ k. (looks_at (theory.trustee_view new) k).count ≡ (looks_at (theory.trustee_view old) k).count + 1) (sym at)
            (ap (λ (l : Looks). l.count) told ∙ ap (λ (l : Looks). l.count + 1) before)
        | inr ne ↦
            ap (λ (l : Looks). l.count) (look_other n c found (theory.trustee_view mid) (theory.trustee_view new) ne looks)
            ∙ looked_below n c was between old mid below (omega (arith, most)) (omega (arith, lt, ne))
      ]

  -- the log only grows
  answered_grows :
      (hand : Option (BatchView V O R T)) (old new : List (Entry V O R T)) (grown : BatchView V O R T → List (Entry V O R T))
      → IsSomeAnd hand (λ h. new ≡ old ++ grown h) → IsPrefix old new
  answered_grows None old new grown some = absurd some
  answered_grows (Some h) old new grown is = (grown h, is)

  served_grows :
      (c : ℕ) (was now : Table) (old new : Owner) → ServesPlace theory kind opening c was now old new
      → IsPrefix (theory.trustee_view old).log (theory.trustee_view new).log
  served_grows c was now old new (inl passes) = ([], passes.sees.log ∙ sym (append-nil (theory.trustee_view old).log))
  served_grows c was now old new (inr answers) =
      let mid = theory.trustee_view answers.mid in
      let r = answers.replied in
      subst (λ log. IsPrefix log (theory.trustee_view new).log) answers.takes.log
      (answered_grows _ mid.log (theory.trustee_view new).log
      (λ (hand : BatchView V O R T). added mid.log r.resumes c hand.requests hand.room r.answers.answers.items) r.answered.log)

  pub below_grows :
      (n : ℕ) (was now : Table) (old new : Owner) → ServesBelow theory kind opening n was now old new → IsPrefix (theory.trustee_view old).log (theory.trustee_view new).log
  unfolding ServesBelow
  below_grows zero was now old new none = ([], ap (λ (side : Owner). (theory.trustee_view side).log) none.1 ∙ sym (append-nil (theory.trustee_view old).log))
  below_grows (suc n) was now old new serves =
      let (between, mid, below, mine, here) = serves in
      let (first, is_first) = below_grows n was between old mid below in
      let (then, is_then) = served_grows n between now mid new here in
      (first ++ then, is_then ∙ ap (λ l. l ++ then) is_first ∙ append_assoc (theory.trustee_view old).log first then)

-- no more batches were found than places looked at
pub found_most : {V O R T : Type 0} (n : ℕ) (view : TrusteeView V O R T) → found_below n view ≤ n
unfolding found_below
found_most zero view = omega arith
found_most (suc n) view =
    let below : found_below n view ≤ n = found_most n view in
    let here : cond (looks_at view n).found 1 0 ≤ 1 = at_most_one (looks_at view n).found in
    omega (arith, below, here)
