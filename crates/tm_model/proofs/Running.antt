-- What an operation that ran leaves of the value.
use Rattle.std.proofs.Common.{◌≡◌, Bool, true, false, inl, inr, refl, sym, ◌∙◌, ap}
use Rattle.tm_seq.specs.Kind.{Kind, KindLaws, IsRun}
use Rattle.tm_model.specs.Serve.{value_run}

module _ {V O R T : Type 0} (kind : Kind V O R T) (laws : KindLaws kind) where
  stepped :
      (v w : V) (op : O) (r : R) (t : Bool) → kind.lacks r ≡ t → w ≡ (kind.step v op).0 → r ≡ (kind.step v op).1
      → w ≡ value_run kind v op r
  stepped v w op r true lacks value reply =
      let no_memory : r ≡ kind.no_memory = (laws.lacks_is r).0 lacks in
      rw lacks (value ∙ laws.step_kept v op (sym reply ∙ no_memory))
  stepped v w op r false lacks value reply = rw lacks value

  -- the value after a lawful operation is that of the state's step
  pub run_value : (v w : V) (op : O) (r : R) → IsRun kind v op w r → w ≡ value_run kind v op r
  run_value v w op r run =
      elim run [
        | inl e ↦ stepped v w op r (kind.lacks r) refl (ap (λ (p : V × R). p.0) e) (ap (λ (p : V × R). p.1) e)
        | inr e ↦ let lacks : kind.lacks r ≡ true = (laws.lacks_is r).1 e.1 in rw lacks e.0
      ]
