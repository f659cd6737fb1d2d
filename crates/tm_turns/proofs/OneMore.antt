-- One table more of a build, with its sides.
use Rattle.std.proofs.Common.{◌≡◌, ℕ, zero, suc, ◌+◌, inl, inr, List, [], ◌∷◌, ◌++◌, length, map, slice_index_or, sym, ◌∙◌, ap, subst, arith, length-append}
use Rattle.std.proofs.Math.ListN.{replicate}
use Rattle.std.proofs.lemmas.List.{length-map, length-replicate}
use Rattle.std.specs.Prelude.{slice_get}
use Rattle.std.specs.declared.option.Option.TheVariants.{None, Some}
use Rattle.std.proofs.lemmas.Option.{slice_get_within, slice_get-get_or}
use Rattle.tm_seq.specs.Kind.{Kind}
use Rattle.tm_batch.specs.declared.config.Config.{Config}
use Rattle.tm_batch.specs.declared.config.First.{First}
use Rattle.tm_model.specs.Opening.{opening_of}
use Rattle.tm_pair.specs.Views.{new_trustee}
use Rattle.tm_pair.specs.Theory.{IsNewClientOf, IsNewTable}
use Rattle.tm_pair.specs.Plain.{opening_at, trustee_at, IsTrusteeOf, plain_theory}
use Rattle.tm_pair.specs.declared.plain.PlainTable.{PlainTable}
use Rattle.tm_pair.specs.declared.plain.PlainClient.{PlainClient}
use Rattle.tm_pair.specs.declared.plain.PlainTrustee.{PlainTrustee}
use Rattle.tm_turns.specs.declared.opened.Opened.{Opened}
use Rattle.tm_turns.specs.Opening.{dealt, lowest, AreSidesOf, AreOpened}
use Rattle.tm_turns.proofs.Dealing.{dealt_at, dealt_many}
use Rattle.tm_turns.proofs.Fronts.{last_cases}

module _ {X : Type 0} where
  repeated : (n k : ℕ) (x y : X) → slice_get (replicate n x) k ≡ Some y → y ≡ x
  repeated zero k x y e = absurd cc
  repeated (suc n) zero x y e = let is : x ≡ y = cc in sym is
  repeated (suc n) (suc k) x y e = repeated n k x y e

  read_there : (xs : List X) (i : ℕ) (x : X) → slice_get xs i ≡ Some x → x ≡ slice_index_or xs i x
  read_there xs i x e = let here = slice_get-get_or xs i x (slice_get_within xs i x e) in let same : Some x ≡ Some (slice_index_or xs i x) = sym e ∙ here in cc

module _ {V O R T : Type 0} (kind : Kind V O R T) (config : Config) (first : List (First V)) (n : ℕ) (old new : Opened V O R T)
    (table : PlainTable V O R T) (sides : List (PlainClient V O R T)) (home : PlainTrustee V O R T) (are : AreOpened kind config first n old)
    (is : IsNewTable (plain_theory kind) (opening_of n config first) table sides home) (tables : new.tables.items ≡ old.tables.items ++ table ∷ [])
    (homes : new.homes.items ≡ old.homes.items ++ home ∷ [])
    (seats : map (λ l. l.items) new.seats.items ≡ dealt sides (map (λ l. l.items) old.seats.items)) where
  many_sides : length sides ≡ config.clients + n
  many_sides = is.count

  one_table : (t : ℕ) (x : PlainTable V O R T) → slice_get new.tables.items t ≡ Some x → opening_at x ≡ opening_of t config first
  one_table t x e =
      elim (last_cases old.tables.items table t x (subst (λ xs. slice_get xs t ≡ Some x) tables e)) [
        | inl before ↦ are.tables t x before
        | inr h ↦
            subst (λ y. opening_at y ≡ opening_of t config first) (sym h.1)
            (is.opens ∙ ap (λ k. opening_of k config first) (sym (h.0 ∙ are.as_many_tables)))
      ]

  one_home :
      (t : ℕ) (x : PlainTable V O R T) (h : PlainTrustee V O R T) → slice_get new.tables.items t ≡ Some x → slice_get new.homes.items t ≡ Some h
      → IsTrusteeOf kind x h × (trustee_at h ≡ new_trustee (config.clients + t))
  one_home t x h ex eh =
      let many = are.as_many_tables in
      let many_homes = are.as_many_homes in
      elim (last_cases old.tables.items table t x (subst (λ xs. slice_get xs t ≡ Some x) tables ex)) [
        | inl at ↦
            elim (last_cases old.homes.items home t h (subst (λ xs. slice_get xs t ≡ Some h) homes eh)) [
              | inl of ↦ are.homes t x h at of
              | inr last ↦ let lt = slice_get_within old.tables.items t x at in let e = last.0 in absurd (omega (arith, lt, e, many, many_homes))
            ]
        | inr last ↦
            elim (last_cases old.homes.items home t h (subst (λ xs. slice_get xs t ≡ Some h) homes eh)) [
              | inl of ↦ let lt = slice_get_within old.homes.items t h of in let e = last.0 in absurd (omega (arith, lt, e, many, many_homes))
              | inr too ↦
                  let view : trustee_at home ≡ new_trustee (config.clients + t) =
                  is.view ∙ ap (λ k. new_trustee (config.clients + k)) (sym (last.0 ∙ many)) in
                  subst (λ y. IsTrusteeOf kind y h × (trustee_at h ≡ new_trustee (config.clients + t))) (sym last.1)
                  (subst (λ g. IsTrusteeOf kind table g × (trustee_at g ≡ new_trustee (config.clients + t))) (sym too.1) (is.mine, view))
            ]
      ]

  one_place :
      (p : ℕ) (list : List (PlainClient V O R T)) → slice_get (map (λ l. l.items) new.seats.items) p ≡ Some list
      → AreSidesOf kind config.clients (n + 1) p new.tables.items list
  one_place p list e =
      let many = are.as_many_tables in
      let count = many_sides in
      elim (dealt_at sides (map (λ l. l.items) old.seats.items) p list (subst (λ xs. slice_get xs p ≡ Some list) seats e)) [
        | inl d ↦
            let was = are.seats p d.before d.of_list in
            let within = slice_get_within sides p d.side d.of_side in
            let few = was.count in
            let longer : length list ≡ length d.before + 1 = ap (λ xs. length xs) d.is ∙ length-append d.before (d.side ∷ []) in
            record {
              count = omega (arith, few, longer, within, count);
              each = λ k x side ex es.
                  elim (last_cases d.before d.side k side (subst (λ xs. slice_get xs k ≡ Some side) d.is es)) [
                    | inl before ↦
                        let lt = slice_get_within d.before k side before in
                        elim (last_cases old.tables.items table (lowest config.clients p + k) x (subst (λ xs. slice_get xs (lowest config.clients p + k) ≡ Some x) tables ex)) [
                          | inl there ↦ was.each k x side there before
                          | inr last ↦ let at = last.0 in absurd (omega (arith, at, many, lt, few))
                        ]
                    | inr last ↦
                        let at = last.0 in
                        elim (last_cases old.tables.items table (lowest config.clients p + k) x (subst (λ xs. slice_get xs (lowest config.clients p + k) ≡ Some x) tables ex)) [
                          | inl there ↦
                              let lt = slice_get_within old.tables.items (lowest config.clients p + k) x there in
                              absurd (omega (arith, at, many, lt, few, within, count))
                          | inr here ↦
                              subst (λ y. IsNewClientOf (plain_theory kind) y p side) (sym here.1)
                              (
                              subst (λ s. IsNewClientOf (plain_theory kind) table p s) (sym last.1)
                              (is.clients_are p d.side within (read_there sides p d.side d.of_side))
                              )
                        ]
                  ];
            }
        | inr past ↦
            let was = are.seats p list past.1 in
            let few = was.count in
            let le = past.0 in
            record {
              count = omega (arith, few, le, count);
              each = λ k x side ex es. let lt = slice_get_within list k side es in absurd (omega (arith, few, lt, le, count));
            }
      ]

  pub opened_more : AreOpened kind config first (n + 1) new
  opened_more = record {
    as_many_tables = ap (λ xs. length xs) tables ∙ length-append old.tables.items (table ∷ []) ∙ ap (λ k. k + 1) are.as_many_tables;
    as_many_homes = ap (λ xs. length xs) homes ∙ length-append old.homes.items (home ∷ []) ∙ ap (λ k. k + 1) are.as_many_homes;
    tables = one_table;
    homes = one_home;
    places = sym (length-map new.seats.items (λ l. l.items)) ∙ ap (λ xs. length xs) seats ∙ dealt_many sides (map (λ l. l.items) old.seats.items)
        ∙ length-map old.seats.items (λ l. l.items) ∙ are.places;
    seats = one_place;
  }

module _ {V O R T : Type 0} (kind : Kind V O R T) (config : Config) (first : List (First V)) where
  -- and no table has no sides
  pub opened_none :
      (opened : Opened V O R T) → opened.tables.items ≡ [] → opened.homes.items ≡ []
      → map (λ l. l.items) opened.seats.items ≡ replicate (config.clients + config.trustees) [] → AreOpened kind config first 0 opened
  opened_none opened tables homes seats = record {
    as_many_tables = ap (λ xs. length xs) tables;
    as_many_homes = ap (λ xs. length xs) homes;
    tables = λ t table e. let none : None ≡ Some table = sym (ap (λ xs. slice_get xs t) tables) ∙ e in absurd cc;
    homes = λ t table home e of. let none : None ≡ Some table = sym (ap (λ xs. slice_get xs t) tables) ∙ e in absurd cc;
    places = sym (length-map opened.seats.items (λ l. l.items)) ∙ ap (λ xs. length xs) seats ∙ length-replicate (config.clients + config.trustees) [];
    seats = λ p sides e.
        let empty : sides ≡ [] = repeated (config.clients + config.trustees) p [] sides (subst (λ xs. slice_get xs p ≡ Some sides) seats e) in
        let none : length sides ≡ 0 = ap (λ xs. length xs) empty in
        record {
          count = omega (arith, none);
          each = λ k table side et es. let lt = slice_get_within sides k side es in absurd (omega (arith, lt, none));
        };
  }
