-- A trustee's own table is served, and is one of its list.
use Rattle.std.proofs.Common.{◌≡◌, ℕ, ◌+◌, List, slice_set, length-set, refl, sym, ◌∙◌, ap, subst}
use Rattle.std.specs.Prelude.{slice_get}
use Rattle.std.specs.declared.option.Option.TheVariants.{Some}
use Rattle.std.proofs.lemmas.Option.{slice_get_within}
use Rattle.tm_seq.specs.Kind.{Kind}
use Rattle.tm_model.specs.State.{State, place_count}
use Rattle.tm_pair.specs.Theory.{Theory, KeepsClients, TheoryLaws}
use Rattle.tm_trustee.specs.Places.{ServesBelow}
use Rattle.tm_trustee.specs.Serving.{IsServing}
use Rattle.tm_trustee.specs.Tables.{KeepsOwn}
use Rattle.tm_trustee.specs.declared.trustee.Trustee.{Trustee}
use Rattle.tm_trustee.proofs.Elements.{set_other, set_here, same_element, pairwise_set}

module _ {V O R T Table Client Owner : Type 0} (theory : Theory V O R T Table Client Owner) (kind : Kind V O R T) (laws : TheoryLaws theory kind) where
  pub own_kept :
      (tables : List Table) (n : ℕ) (was now : Table) (after : Owner) → slice_get tables n ≡ Some was → KeepsClients theory was now after
      → KeepsOwn theory tables (slice_set tables n now) n
  own_kept tables n was now after is keeps =
      let here = set_here tables n now (slice_get_within tables n was is) in
      record {
        as_many = length-set tables n now;
        others = λ k ne. set_other tables n k now ne;
        same = pairwise_set theory.Same laws.same_refl tables n was now is keeps.same;
        openings = pairwise_set (λ x y. theory.opening y ≡ theory.opening x) (λ x. refl) tables n was now is keeps.opening;
        clients = λ x y ex ey other has.
            let first : x ≡ was = same_element tables n was x is ex in
            let then : y ≡ now = same_element (slice_set tables n now) n now y here ey in
            subst (λ (z : Table). theory.HasClient z other) (sym then) (keeps.clients other (subst (λ (z : Table). theory.HasClient z other) first has));
      }

  -- what was served is told of the table that is there
  pub served_there :
      (tables : List Table) (n many : ℕ) (own becomes was now : Table) (first last : Owner) → slice_get tables n ≡ Some own
      → slice_get tables n ≡ Some was → slice_get (slice_set tables n becomes) n ≡ Some now → many ≡ place_count (theory.opening own).setup
      → ServesBelow theory kind (theory.opening own) many own becomes first last
      → ServesBelow theory kind (theory.opening was) (place_count (theory.opening was).setup) was now first last
  served_there tables n many own becomes was now first last is is_was is_now places serves =
      let one : was ≡ own = same_element tables n own was is is_was in
      let here = set_here tables n becomes (slice_get_within tables n own is) in
      let two : now ≡ becomes = same_element (slice_set tables n becomes) n becomes now here is_now in
      subst (λ x. ServesBelow theory kind (theory.opening x) (place_count (theory.opening x).setup) x now first last) (sym one)
      (subst (λ x. ServesBelow theory kind (theory.opening own) (place_count (theory.opening own).setup) own x first last) (sym two)
      (subst (λ m. ServesBelow theory kind (theory.opening own) m own becomes first last) places serves))

-- so many places there are
pub places_of :
    {V O R T Table Client Owner : Type 0} (theory : Theory V O R T Table Client Owner) (kind : Kind V O R T) (opening : State V O R T)
    (t : Trustee V Table O R T Client Owner) → IsServing theory kind opening t → t.clients + t.number ≡ place_count opening.setup
places_of theory kind opening t serving =
    ap (λ m. m + t.number) serving.clients ∙ ap (λ n. opening.setup.config.clients + n) serving.number
