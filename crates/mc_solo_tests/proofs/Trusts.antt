-- The trusts that were dealt out, as they are read of a vector of vectors.
use Rattle.std.proofs.Common.{◌≡◌, ℕ, ◌<◌, List, Vec, length, map, slice_index_or, sym, ◌∙◌, ap, subst}
use Rattle.std.specs.Prelude.{slice_get}
use Rattle.std.specs.Global.{Global}
use Rattle.std.specs.declared.option.Option.TheVariants.{Some}
use Rattle.tm_trustee.proofs.Elements.{mapped, read_at, same_element}
use Rattle.tm_client.specs.declared.trust.Trust.{Trust}
use Rattle.mc_solo.specs.Serving.{StoreTurns, MayServe}

module _ (place : ℕ) (trusts : List (Vec Trust Global)) (read : Vec Trust Global) (within : place < length trusts) (value : read ≡ slice_index_or trusts place read)
    (list : List Trust) (items : list ≡ read.items) where
  pub dealt : (turns : StoreTurns) → ((c : ℕ) (its : List Trust) → slice_get (map (λ l. l.items) trusts) c ≡ Some its → MayServe c its turns) → MayServe place list turns
  dealt turns may =
      subst (λ xs. MayServe place xs turns) (sym items) (may place read.items (mapped (λ l. l.items) trusts place read (read_at trusts place read within value)))

  pub read_again : (other : Vec Trust Global) → other ≡ slice_index_or trusts place other → (others : List Trust) → others ≡ other.items → others ≡ list
  read_again other value_other others items_other =
      items_other ∙ ap (λ (l : Vec Trust Global). l.items) (same_element trusts place read other (read_at trusts place read within value) (read_at trusts place other within value_other))
      ∙ sym items
