-- `place_field`: a field of every place stays, if that of the one place that changes does.
-- Other crates import from this file.
use Rattle.std.proofs.Common.{◌≡◌, ℕ, List, length, slice_index_or, slice_set, inl, inr, refl, get_or-set_same, get_or-set_other}
use Rattle.std.proofs.lemmas.Bool.{cases_eq, cases_lt}
use Rattle.std.proofs.lemmas.List.{set_past}
use Rattle.tm_model.specs.State.{Place, no_place}

module _ {V O R T : Type 0} where
  -- a field of each place stays, if that of the one that changes does
  pub place_field :
      {X : Type 0} (f : Place V O R T → X) (places : List (Place V O R T)) (d c : ℕ) (p : Place V O R T) → f p ≡ f (slice_index_or places d no_place)
      → f (slice_index_or (slice_set places d p) c no_place) ≡ f (slice_index_or places c no_place)
  place_field f places d c p same =
      elim (cases_eq c d) [
        | inl e ↦
            elim (cases_lt d (length places)) [
              | inl lt ↦ rw (e, get_or-set_same places d p no_place lt) same
              | inr ge ↦ rw (set_past places d p ge) refl
            ]
        | inr ne ↦ rw (get_or-set_other places d c p no_place ne) refl
      ]
