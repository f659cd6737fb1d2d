-- Serving places keeps idle the places that have said Bye.
use Rattle.std.proofs.Common.{◌≡◌, ℕ, zero, suc, ◌<◌, ◌≤◌, ◌++◌, inl, inr, sym, ◌∙◌, ap, subst, arith}
use Rattle.std.specs.Prelude.{IsSomeAnd}
use Rattle.std.specs.declared.option.Option.{Option}
use Rattle.tm_seq.specs.Kind.{Kind}
use Rattle.tm_model.specs.Answering.{MayGrow}
use Rattle.tm_model.specs.Entries.{added}
use Rattle.tm_model.specs.Laws.{IsPromised}
use Rattle.tm_model.specs.State.{State, place_count}
use Rattle.tm_pair.specs.Sides.{IsGoodTrustee}
use Rattle.tm_pair.specs.Theory.{Theory, TheoryLaws}
use Rattle.tm_pair.specs.Views.{BatchView}
use Rattle.tm_trustee.specs.Awaiting.{AreIdle}
use Rattle.tm_trustee.specs.Places.{ServesPlace, ServesBelow}
use Rattle.tm_trustee.proofs.Idle.{idle_answered}
use Rattle.tm_trustee.proofs.Serving.{taken_in_hand}

module _ {V O R T Table Client Owner : Type 0} (theory : Theory V O R T Table Client Owner) (kind : Kind V O R T) (laws : TheoryLaws theory kind) (opening : State V O R T) where
  one_kept : (c : ℕ) (was now : Table) (old new : Owner) → ServesPlace theory kind opening c was now old new → theory.opening now ≡ theory.opening was
  one_kept c was now old new (inl passes) = passes.keeps.opening
  one_kept c was now old new (inr answers) = answers.replied.keeps.opening ∙ answers.keeps.opening

  below_kept : (n : ℕ) (was now : Table) (old new : Owner) → ServesBelow theory kind opening n was now old new → theory.opening now ≡ theory.opening was
  unfolding ServesBelow
  below_kept zero was now old new none = ap theory.opening none.0
  below_kept (suc n) was now old new serves =
      let (between, mid, below, mine, here) = serves in one_kept n between now mid new here ∙ below_kept n was between old mid below

  one_idle :
      (c : ℕ) (was now : Table) (old new : Owner) → ServesPlace theory kind opening c was now old new → IsGoodTrustee kind opening (theory.trustee_view old)
      → c < place_count opening.setup → AreIdle kind opening (theory.trustee_view old).log → AreIdle kind opening (theory.trustee_view new).log
  one_idle c was now old new (inl passes) good lt idle = subst (λ l. AreIdle kind opening l) (sym passes.sees.log) idle
  one_idle c was now old new (inr answers) good lt idle =
      let view = theory.trustee_view old in
      let mid = theory.trustee_view answers.mid in
      let b = answers.batch in
      let r = answers.replied in
      let hand = taken_in_hand kind opening view mid c b good lt answers.takes in
      let grows : MayGrow kind opening mid.log r.resumes c b.requests.items b.room r.answers =
      subst (λ (o : Option (BatchView V O R T)). IsSomeAnd o (λ h. MayGrow kind opening mid.log r.resumes c h.requests h.room r.answers)) hand r.may in
      let log : (theory.trustee_view new).log ≡ mid.log ++ added mid.log r.resumes c b.requests.items b.room r.answers.answers.items =
      subst (λ (o : Option (BatchView V O R T)). IsSomeAnd o (λ h. (theory.trustee_view new).log ≡ mid.log ++ added mid.log r.resumes c h.requests h.room r.answers.answers.items)) hand
      r.answered.log in
      subst (λ l. AreIdle kind opening l) (sym log)
      (idle_answered kind opening good.opens mid.log r.resumes c b.room b.requests.items r.answers.answers.items grows.only grows.is_legal grows.as_many
      (subst (λ l. IsPromised kind opening l c b.requests.items) (sym answers.takes.log) answers.takes.promised)
      (subst (λ l. AreIdle kind opening l) (sym answers.takes.log) idle))

  pub below_idle :
      (n : ℕ) (was now : Table) (old new : Owner) → ServesBelow theory kind opening n was now old new → theory.opening was ≡ opening → n ≤ place_count opening.setup
      → theory.HasTrustee was old → AreIdle kind opening (theory.trustee_view old).log → AreIdle kind opening (theory.trustee_view new).log
  unfolding ServesBelow
  below_idle zero was now old new none opens le has idle = subst (λ (o : Owner). AreIdle kind opening (theory.trustee_view o).log) (sym none.1) idle
  below_idle (suc n) was now old new serves opens le has idle =
      let (between, mid, below, mine, here) = serves in
      let at : theory.opening between ≡ opening = below_kept n was between old mid below ∙ opens in
      one_idle n between now mid new here (subst (λ s. IsGoodTrustee kind s (theory.trustee_view mid)) at (laws.trustee_is_good between mid mine)) (omega (arith, le))
      (below_idle n was between old mid below opens (omega (arith, le)) has idle)
