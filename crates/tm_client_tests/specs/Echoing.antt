-- For tests: a kind that answers each number with itself.
use Rattle.std.specs.Prelude.{ℕ, ◌==◌}
use Rattle.std.proofs.Common.{refl, eq-eqb, eqb-true}
use Rattle.tm_seq.specs.Kind.{Kind, KindLaws}
use Rattle.tm_seq.specs.declared.kind.Next.TheVariants.{Done}

-- 0 is its reply for want of memory, and it launches nothing
abbrev pub echo_kind : {V : Type 0} → Kind V ℕ ℕ ℕ
echo_kind = record { step = λ v n. (v, n); advance = λ v task event. (v, Done 0); left = λ task. 0; no_memory = 0; lacks = λ r. r == 0 }

pub echo_laws : {V : Type 0} → KindLaws (echo_kind {V = V})
echo_laws = record {
  lacks_is = λ r. (eqb-true r 0, eq-eqb r 0);
  step_kept = λ v n e. refl;
  advance_kept = λ v task event e. refl;
  falls = λ v task event. tt;
}
