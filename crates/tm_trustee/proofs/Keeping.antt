-- What calls leave of the tables, one after another.
use Rattle.std.proofs.Common.{◌≡◌, ℕ, ◌+◌, List, slice_set, length-set, refl, ◌∙◌, arith}
use Rattle.std.specs.Prelude.{slice_get}
use Rattle.std.specs.declared.option.Option.TheVariants.{Some}
use Rattle.tm_seq.specs.Kind.{Kind}
use Rattle.tm_pair.specs.Theory.{Theory, KeepsSides, TheoryLaws}
use Rattle.tm_trustee.specs.Tables.{KeepsOthers, KeepsAbove}
use Rattle.tm_trustee.proofs.Elements.{set_other, pairwise_same, pairwise_on, pairwise_set}

module _ {V O R T Table Client Owner : Type 0} (theory : Theory V O R T Table Client Owner) (kind : Kind V O R T) (laws : TheoryLaws theory kind) where
  pub others_same : (place : ℕ) (table : Table) → KeepsOthers theory place table table
  others_same place table = record { same = laws.same_refl table; opening = refl; clients = λ other ne has. has; trustee = λ other has. has }

  pub others_on :
      (place : ℕ) (a b c : Table) → KeepsOthers theory place a b → KeepsOthers theory place b c → KeepsOthers theory place a c
  others_on place a b c first then = record {
    same = laws.same_trans a b c first.same then.same;
    opening = then.opening ∙ first.opening;
    clients = λ other ne has. then.clients other ne (first.clients other ne has);
    trustee = λ other has. then.trustee other (first.trustee other has);
  }

  pub keeps_none : (tables : List Table) (from place : ℕ) → KeepsAbove theory tables tables from place
  keeps_none tables from place = record {
    as_many = refl;
    lower = λ t lt. refl;
    others = pairwise_same (KeepsOthers theory place) (others_same place) tables;
  }

  pub keeps_on :
      (a b c : List Table) (from place : ℕ) → KeepsAbove theory a b from place → KeepsAbove theory b c from place → KeepsAbove theory a c from place
  keeps_on a b c from place first then = record {
    as_many = then.as_many ∙ first.as_many;
    lower = λ t lt. then.lower t lt ∙ first.lower t lt;
    others = pairwise_on (KeepsOthers theory place) (others_on place) a b c first.as_many first.others then.others;
  }

  -- a call at the table of a side of that place
  pub keeps_set :
      (tables : List Table) (from i place : ℕ) (was now : Table) (before after : Client) → slice_get tables (from + i) ≡ Some was
      → KeepsSides theory was now before after → (theory.client_view before).place ≡ place
      → KeepsAbove theory tables (slice_set tables (from + i) now) from place
  keeps_set tables from i place was now before after is keeps at =
      let here : KeepsOthers theory place was now = record {
        same = keeps.same;
        opening = keeps.opening;
        clients = λ other ne has. keeps.clients other (λ e. ne (e ∙ at)) has;
        trustee = keeps.trustee;
      } in
      record {
        as_many = length-set tables (from + i) now;
        lower = λ t lt. set_other tables (from + i) t now (λ e. absurd (omega (arith, lt, e)));
        others = pairwise_set (KeepsOthers theory place) (others_same place) tables (from + i) was now is here;
      }
