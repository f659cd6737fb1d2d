-- A client stays at the tables of its trustees, and its turns are counted trustee by trustee.
use Rattle.std.proofs.Common.{◌≡◌, ℕ, suc, ◌+◌, ◌<◌, inl, inr, List, length, length-set, refl, sym, ◌∙◌, ap, subst, arith}
use Rattle.std.specs.Prelude.{slice_get, slice_index_or, slice_set, IsSomeAnd}
use Rattle.std.specs.declared.option.Option.TheVariants.{Some}
use Rattle.std.proofs.lemmas.Option.{slice_get-get_or}
use Rattle.tm_seq.specs.Kind.{Kind}
use Rattle.tm_model.specs.State.{State}
use Rattle.tm_pair.specs.Theory.{Theory}
use Rattle.tm_client.specs.declared.lane.Lane.{Lane}
use Rattle.tm_client.specs.declared.answers.Turn.{Turn}
use Rattle.tm_client.specs.declared.books.Books.{Books}
use Rattle.tm_client.specs.Clients.{IsClient}
use Rattle.tm_client.specs.Turns.{HasTurned}
use Rattle.tm_client.specs.Asking.{At}
use Rattle.tm_client.proofs.Elements.{set_cases, element_at}
use Rattle.tm_asking.specs.declared.turning.Turned.{Turned}
use Rattle.tm_asking.specs.declared.turning.Turned.TheVariants.{Nothing}
use Rattle.tm_asking.specs.Turning.{told_with, IsAtTables, TurnsWhereCounting, TurnsBelow}

module _ {V C D O R T Table Owner : Type 0} (theory : Theory V O R T Table D Owner) (kind : Kind V O R T) where
  pub stays_home :
      (openings : ℕ → State V O R T) (t : ℕ) (answer : Turn) (was now : Table) (tables tables_new : List Table) (old new : Books V C D O R T)
      → IsAtTables theory openings tables old → slice_get tables t ≡ Some was → HasTurned theory kind t answer was now old new
      → tables_new ≡ slice_set tables t now → IsClient theory.client_view openings new → IsAtTables theory openings tables_new new
  stays_home openings t answer was now tables tables_new old new home at h set client =
      let places = ap length set ∙ length-set tables t now in
      let lanes = ap length h.turns.lanes ∙ length-set old.lanes.items t h.becomes in
      let few = home.few in
      let many = home.as_many in record {
        few = omega (arith, places, few);
        as_many = omega (arith, places, lanes, many);
        opens = λ k table e.
            elim (set_cases tables t k now table (subst (λ xs. slice_get xs k ≡ Some table) set e)) [
              | inl (same, is) ↦ ap (λ n. openings n) same ∙ home.opens t was at ∙ sym h.keeps.opening ∙ ap theory.opening (sym is)
              | inr (other, there) ↦ home.opens k table there
            ];
        mine = λ k table lane e f.
            elim (set_cases tables t k now table (subst (λ xs. slice_get xs k ≡ Some table) set e)) [
              | inl (same, is) ↦
                  elim (set_cases old.lanes.items t k h.becomes lane (subst (λ xs. slice_get xs k ≡ Some lane) h.turns.lanes f)) [
                    | inl (also, becomes) ↦ subst (λ x. theory.HasClient x lane.side) (sym is) (subst (λ l. theory.HasClient now l.side) (sym becomes) h.keeps.mine)
                    | inr (other, there) ↦ absurd (other same)
                  ]
              | inr (other, there) ↦
                  elim (set_cases old.lanes.items t k h.becomes lane (subst (λ xs. slice_get xs k ≡ Some lane) h.turns.lanes f)) [
                    | inl (also, becomes) ↦ absurd (other also)
                    | inr (other, lane_there) ↦ home.mine k table lane there lane_there
                  ]
            ];
        client = client;
      }

  pub below_none : (tables : List Table) (books : Books V C D O R T) → TurnsBelow theory kind 0 Nothing tables books tables books
  unfolding TurnsBelow
  below_none tables books = (refl, refl, refl)

  pub below_more :
      (n : ℕ) (before here told : Turned) (tables mid tables_new : List Table) (books book books_new : Books V C D O R T)
      → TurnsBelow theory kind n before tables books mid book → TurnsWhereCounting theory kind n here mid book tables_new books_new
      → told ≡ told_with before here → TurnsBelow theory kind (n + 1) told tables books tables_new books_new
  unfolding TurnsBelow
  below_more n before here told tables mid tables_new books book books_new below turns e =
      let next : suc n ≡ n + 1 = omega arith in
      subst (λ m. TurnsBelow theory kind m told tables books tables_new books_new) next (mid, book, before, here, below, turns, e)

  -- what a turn at trustee t asks for
  pub lane_at : (openings : ℕ → State V O R T) (tables : List Table) (books : Books V C D O R T) (t : ℕ) → IsAtTables theory openings tables books
      → t < length tables → (lane : Lane V C D O R T) × (slice_get books.lanes.items t ≡ Some lane)
  lane_at openings tables books t home lt = let many = home.as_many in element_at books.lanes.items t (omega (arith, lt, many))

  pub mine_at : (openings : ℕ → State V O R T) (tables : List Table) (books : Books V C D O R T) (t : ℕ) (d : Table) → IsAtTables theory openings tables books
      → t < length tables → At books t (λ lane. theory.HasClient (slice_index_or tables t d) lane.side)
  mine_at openings tables books t d home lt =
      let (lane, there) = lane_at openings tables books t home lt in
      subst (λ o. IsSomeAnd o (λ lane. theory.HasClient (slice_index_or tables t d) lane.side)) (sym there)
      (home.mine t (slice_index_or tables t d) lane (slice_get-get_or tables t d lt) there)
