-- What the parts of a build hold at first is what their opening states say.
use Rattle.std.proofs.Common.{◌≡◌, ℕ, zero, suc, ◌+◌, ◌==◌, ◌≤◌, ◌<◌, true, false, cond, inl, inr, List, [], ◌∷◌, length, map, filter, slice_index_or, refl, sym, ◌∙◌, ap, arith, eq-eqb, ne_eqb}
use Rattle.std.specs.Prelude.{nat_lt, ◌||◌}
use Rattle.std.specs.List.{AllByRecursion, list_any, range_with_len}
use Rattle.std.proofs.lemmas.Bool.{cases_eq, cases_lt, lt-ltb, le-ltb}
use Rattle.std.proofs.lemmas.List.FromFn.{get_or-map-range_with_len, length-map-range_with_len}
use Rattle.tm_batch.specs.declared.config.Config.{Config}
use Rattle.tm_batch.specs.declared.config.First.{First}
use Rattle.tm_batch.specs.declared.message.Name.{Name}
use Rattle.tm_model.specs.Opening.{is_named, placed_on, ids_naming, ids_at, IsBuildable, opening_of}
use Rattle.tm_trustee.specs.Serving.{AreNested}
use Rattle.tm_build.specs.Holding.{held_of}
use Rattle.tm_build.proofs.Holding.{ids_of, held_ids}

-- the ids of a trustee's objects among some names
names_ids : (u : ℕ) (names : List (ℕ × Name)) → map (λ n. n.1.id) (filter (λ n. n.0 == u) names) ≡ ids_of u (map (λ h. (h.0, h.1.id)) names)
names_ids u [] = refl
names_ids u (n ∷ names) =
    elim (n.0 == u) as
    (λ b. map (λ (m : ℕ × Name). m.1.id) (cond b (n ∷ filter (λ m. m.0 == u) names) (filter (λ m. m.0 == u) names))
    ≡ map (λ (h : ℕ × ℕ). h.1) (cond b ((n.0, n.1.id) ∷ filter (λ h. h.0 == u) (map (λ h. (h.0, h.1.id)) names)) (filter (λ h. h.0 == u) (map (λ h. (h.0, h.1.id)) names)))) [
      | true ↦ ap (λ xs. n.1.id ∷ xs) (names_ids u names)
      | false ↦ names_ids u names
    ]

past_end : {X : Type 0} (xs : List X) (i : ℕ) (d : X) → length xs ≤ i → slice_index_or xs i d ≡ d
past_end [] i d le = refl
past_end (x ∷ xs) zero d le = absurd (omega (arith, le))
past_end (x ∷ xs) (suc i) d le = past_end xs i d (omega (arith, le))

not_named : (c n : ℕ) (holders : List ℕ) → AllByRecursion (λ h. h < n) holders → n ≤ c → list_any (λ h. h == c) holders ≡ false
not_named c n [] all le = refl
not_named c n (h ∷ holders) all le =
    let lt = all.0 in
    ap (λ b. b || list_any (λ k. k == c) holders) (ne_eqb h c (λ e. absurd (omega (arith, lt, le, e)))) ∙ not_named c n holders all.1 le

module _ {V : Type 0} where
  -- a trustee that is not lower than an object's holds it not
  none_named :
      (clients t u n : ℕ) (first : List (First V)) → AllByRecursion (λ f. AllByRecursion (λ h. h < clients + f.trustee) f.holders) first → u ≤ t
      → ids_naming (clients + t) n (placed_on u first) ≡ []
  none_named clients t u n [] all le = refl
  none_named clients t u n (f ∷ first) all le =
      elim (cases_eq f.trustee u) [
        | inl at ↦
            let here : (f.trustee == u) ≡ true = eq-eqb f.trustee u at in
            let away : is_named (clients + t) f ≡ false = not_named (clients + t) (clients + f.trustee) f.holders all.0 (omega (arith, at, le)) in
            ap (λ b. ids_naming (clients + t) n (cond b (f ∷ placed_on u first) (placed_on u first))) here
            ∙ ap (λ b. cond b (n ∷ ids_naming (clients + t) (n + 1) (placed_on u first)) (ids_naming (clients + t) (n + 1) (placed_on u first))) away
            ∙ none_named clients t u (n + 1) first all.1 le
        | inr ne ↦
            ap (λ b. ids_naming (clients + t) n (cond b (f ∷ placed_on u first) (placed_on u first))) (ne_eqb f.trustee u ne)
            ∙ none_named clients t u n first all.1 le
      ]

  none_there :
      (c n u m : ℕ) (first : List (First V)) → AllByRecursion (λ f. f.trustee < m) first → m ≤ u → ids_naming c n (placed_on u first) ≡ []
  none_there c n u m [] all le = refl
  none_there c n u m (f ∷ first) all le =
      let lt = all.0 in
      ap (λ b. ids_naming c n (cond b (f ∷ placed_on u first) (placed_on u first))) (ne_eqb f.trustee u (λ e. absurd (omega (arith, lt, le, e))))
      ∙ none_there c n u m first all.1 le

  -- what a trustee holds above by the list of the build
  pub nested_are :
      (O R T : Type 0) (config : Config) (first : List (First V)) (t : ℕ) (nested : List (ℕ × Name)) → IsBuildable config first
      → map (λ h. (h.0, h.1.id)) nested ≡ held_of (config.clients + t) first
      → AreNested (opening_of {V = V} {O = O} {R = R} {T = T} t config first).setup nested
  nested_are O R T config first t nested can is u =
      let c : ℕ = config.clients + t in
      let ids : map (λ n. n.1.id) (filter (λ n. n.0 == u) nested) ≡ ids_naming c 1 (placed_on u first) =
      names_ids u nested ∙ ap (λ hs. ids_of u hs) is ∙ held_ids c u [] first in
      let above : ℕ → List ℕ = λ v. cond (nat_lt t v) (ids_at v c first) [] in
      elim (cases_lt u config.trustees) [
        | inl lt ↦
            let there : slice_index_or (map above (range_with_len 0 config.trustees)) u [] ≡ above u =
            get_or-map-range_with_len above 0 config.trustees u u [] lt (omega arith) in
            let same : ids_naming c 1 (placed_on u first) ≡ above u =
            elim (cases_lt t u) [
              | inl higher ↦ ap (λ b. cond b (ids_at u c first) []) (sym (lt-ltb t u higher))
              | inr le ↦ none_named config.clients t u 1 first can.below le ∙ ap (λ b. cond b (ids_at u c first) []) (sym (le-ltb t u le))
            ] in
            ids ∙ same ∙ sym there
        | inr le ↦
            let many : length (map above (range_with_len 0 config.trustees)) ≤ u =
            let n = length-map-range_with_len above 0 config.trustees in omega (arith, n, le) in
            ids ∙ none_there c 1 u config.trustees first can.trustee le ∙ sym (past_end (map above (range_with_len 0 config.trustees)) u [] many)
      ]
