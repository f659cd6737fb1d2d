-- The numbers of the requests that trustees have run, one by one.
use Rattle.std.proofs.Common.{◌≡◌, ℕ, ◌+◌, inl, inr, List, [], ◌∷◌, ◌++◌, length, refl, sym, ◌∙◌, ap, subst, arith}
use Rattle.std.specs.Prelude.{slice_get}
use Rattle.std.specs.declared.option.Option.TheVariants.{Some}
use Rattle.std.proofs.lemmas.List.{length-append}
use Rattle.std.proofs.lemmas.Option.{slice_get_within}
use Rattle.tm_seq.specs.Kind.{Kind}
use Rattle.tm_pair.specs.Plain.{plain_theory}
use Rattle.tm_trustee.specs.Serving.{TellsRun}
use Rattle.tm_turns.specs.Whole.{OneTrustee}
use Rattle.tm_turns.specs.Closing.{AreRuns}
use Rattle.tm_turns.proofs.Fronts.{last_cases}

module _ {V O R T : Type 0} (kind : Kind V O R T) where
  pub runs_none : AreRuns kind [] []
  runs_none = record { as_many = refl; each = λ t n trustee e. absurd cc }

  pub runs_more :
      (trustees more : List (OneTrustee V O R T)) (numbers news : List ℕ) (trustee : OneTrustee V O R T) (n : ℕ)
      → AreRuns kind trustees numbers → TellsRun (plain_theory kind) kind trustee n → more ≡ trustees ++ trustee ∷ [] → news ≡ numbers ++ n ∷ []
      → AreRuns kind more news
  runs_more trustees more numbers news trustee n are tells is also =
      let many = are.as_many in
      record {
        as_many = ap (λ xs. length xs) also ∙ length-append numbers (n ∷ []) ∙ ap (λ k. k + 1) many ∙ sym (length-append trustees (trustee ∷ []))
            ∙ ap (λ xs. length xs) (sym is);
        each = λ t k x ex ek.
            elim (last_cases trustees trustee t x (subst (λ xs. slice_get xs t ≡ Some x) is ex)) [
              | inl before ↦
                  elim (last_cases numbers n t k (subst (λ xs. slice_get xs t ≡ Some k) also ek)) [
                    | inl too ↦ are.each t k x before too
                    | inr h ↦ let lt = slice_get_within trustees t x before in let e = h.0 in absurd (omega (arith, lt, e, many))
                  ]
              | inr last ↦
                  elim (last_cases numbers n t k (subst (λ xs. slice_get xs t ≡ Some k) also ek)) [
                    | inl too ↦ let lt = slice_get_within numbers t k too in let e = last.0 in absurd (omega (arith, lt, e, many))
                    | inr h ↦
                        subst (λ y. TellsRun (plain_theory kind) kind y k) (sym last.1)
                        (subst (λ j. TellsRun (plain_theory kind) kind trustee j) (sym h.1) tells)
                  ]
            ];
      }
