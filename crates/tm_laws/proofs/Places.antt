-- The operations on an object, where only one place made any.
use Rattle.std.proofs.Common.{◌≡◌, ◌≢◌, ℕ, true, false, cond, List, [], ◌∷◌, inl, inr, refl, sym, ◌∙◌, ap, eq-eqb}
use Rattle.std.specs.Prelude.{◌==◌}
use Rattle.std.proofs.lemmas.Bool.{cases_eq}
use Rattle.tm_batch.specs.declared.message.Request.TheVariants.{Apply}
use Rattle.tm_batch.specs.declared.message.Answer.TheVariants.{Replied}
use Rattle.tm_model.specs.declared.entry.Entry.{Entry}
use Rattle.tm_model.specs.declared.entry.Entry.TheVariants.{By}
use Rattle.tm_laws.specs.Objects.{runs_for, OnePlaceRuns}

module _ {V O R T : Type 0} where
  -- of entries behind one the same holds
  behind : (p : ℕ) (e : Entry V O R T) (es : List (Entry V O R T)) → ((c : ℕ) → c ≢ p → runs_for c (e ∷ es) ≡ []) → (c : ℕ) → c ≢ p → runs_for c es ≡ []
  behind p (By d k (Apply n op) (Replied r)) es none c ne =
      let here : cond (d == c) (record { id = n.id; op = op; reply = r } ∷ runs_for c es) (runs_for c es) ≡ [] = none c ne in
      (elim (d == c) as (λ t. cond t (record { id = n.id; op = op; reply = r } ∷ runs_for c es) (runs_for c es) ≡ [] → runs_for c es ≡ []) [
        | true ↦ λ e. absurd cc
        | false ↦ λ e. e
      ]) here
  behind p (_) es none c ne = none c ne

  pub one_place_runs : OnePlaceRuns V O R T
  one_place_runs p id [] none = refl
  one_place_runs p id (By d k (Apply n op) (Replied r) ∷ es) none =
      let later = one_place_runs p id es (behind p (By d k (Apply n op) (Replied r)) es none) in
      elim (cases_eq d p) [
        | inl e ↦ rw (eq-eqb d p e) (ap (λ l. cond (n.id == id) ((op, r) ∷ l) l) later)
        | inr ne ↦
            let some = none d ne in
            let own : runs_for d (By d k (Apply n op) (Replied r) ∷ es) ≡ record { id = n.id; op = op; reply = r } ∷ runs_for d es = ap (λ t. cond t (record { id = n.id; op = op; reply = r } ∷ runs_for d es) (runs_for d es)) (eq-eqb d d refl) in
            absurd (let both : record { id = n.id; op = op; reply = r } ∷ runs_for d es ≡ [] = sym own ∙ some in cc)
      ]
  one_place_runs p id (e ∷ es) none = one_place_runs p id es (behind p e es none)
