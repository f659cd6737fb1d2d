-- For tests: a kind, and a trustee at first with two clients and one object, which client 0 holds.
use Rattle.std.specs.Prelude.{ℕ, ◌-◌, ◌==◌, List, [], ◌∷◌}
use Rattle.std.proofs.Common.{refl, eq-eqb, eqb-true}
use Rattle.tm_seq.specs.Kind.{Kind, KindLaws}
use Rattle.tm_seq.specs.declared.kind.Next.TheVariants.{Done}
use Rattle.tm_batch.specs.declared.message.Name.{Name}
use Rattle.tm_batch.specs.declared.message.Request.{Request}
use Rattle.tm_batch.specs.declared.message.Request.TheVariants.{Apply, Grant}
use Rattle.tm_batch.specs.declared.message.Answer.TheVariants.{Granted}
use Rattle.tm_batch.specs.declared.config.Config.{Config}
use Rattle.tm_batch.specs.declared.config.First.{First}
use Rattle.tm_model.specs.declared.entry.Entry.{Entry}
use Rattle.tm_model.specs.declared.entry.Entry.TheVariants.{By, Sent}
use Rattle.tm_model.specs.State.{State}
use Rattle.tm_model.specs.Opening.{opening_of}

abbrev pub sample_config : Config
sample_config = record { clients = 2; trustees = 2; objects = 4; trusts = 4; last_id = 9 }

abbrev pub sample_first : {V : Type 0} → V → List (First V)
sample_first v = record { trustee = 0; value = v; holders = 0 ∷ [] } ∷ []

-- the state of trustee 0, whose object 1 is v
abbrev pub sample : {V O R T : Type 0} → V → State V O R T
sample v = opening_of 0 sample_config (sample_first v)

-- the name of that object
abbrev pub the_name : Name
the_name = record { id = 1; place = 0 }

-- two numbers are asked of it
abbrev pub two_asked : {V R T : Type 0} → List (Request V ℕ R T)
two_asked = Apply the_name 5 ∷ Apply the_name 6 ∷ []

module _ {V O R T : Type 0} where
  -- it is granted to client 1
  abbrev pub one_granted : List (Request V O R T)
  one_granted = Grant the_name 1 ∷ []

  -- the log by which it was, with so much room
  abbrev pub granted_log : ℕ → List (Entry V O R T)
  granted_log room = By 0 0 (Grant the_name 1) Granted ∷ Sent 0 room ∷ []

-- values that are taken away from each number that is asked
abbrev pub less_kind : {V : Type 0} → (V → ℕ) → Kind V ℕ ℕ ℕ
less_kind by = record { step = λ v n. (v, n - by v); advance = λ v task event. (v, Done 0); left = λ task. 0; no_memory = 0; lacks = λ r. r == 0 }

pub less_laws : {V : Type 0} (by : V → ℕ) → KindLaws (less_kind by)
less_laws by = record {
  lacks_is = λ r. (eqb-true r 0, eq-eqb r 0);
  step_kept = λ v n e. refl;
  advance_kept = λ v task event e. refl;
  falls = λ v task event. tt;
}
