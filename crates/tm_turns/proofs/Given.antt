-- What a client holds at first is what the opening states give it.
use Rattle.std.proofs.Common.{◌≡◌, ℕ, suc, ◌+◌, ◌==◌, ◌<◌, true, false, cond, inl, inr, List, [], ◌∷◌, ◌++◌, length, map, filter, count_by, zero-add, refl, sym, ◌∙◌, ap, subst, arith, eq-eqb, ne_eqb}
use Rattle.std.specs.Prelude.{◌||◌}
use Rattle.std.specs.List.{AllByRecursion, list_any}
use Rattle.std.proofs.lemmas.Bool.{cases_eq}
use Rattle.std.proofs.lemmas.List.{length-map}
use Rattle.std.proofs.lemmas.List.Sums.{sum_by-cons}
use Rattle.tm_seq.specs.Kind.{Kind}
use Rattle.tm_batch.specs.declared.config.Config.{Config}
use Rattle.tm_batch.specs.declared.config.First.{First}
use Rattle.tm_batch.specs.declared.message.Name.{Name}
use Rattle.tm_model.specs.Opening.{is_named, placed_on, ids_naming, IsBuildable, opening_of}
use Rattle.tm_core.proofs.Openings.{openings_give}
use Rattle.tm_client.specs.Begun.{named_at, MayBegin}
use Rattle.tm_build.specs.Holding.{held_from, held_of}
use Rattle.tm_build.proofs.Holding.{ids_of, held_ids}
use Rattle.tm_turns.proofs.Ones.{one_of}

-- how often an id stands in a list
abbrev times : ℕ → List ℕ → ℕ
times id [] = 0
times id (x ∷ xs) = cond (x == id) 1 0 + times id xs

named_times : (t id : ℕ) (held : List (ℕ × Name)) → named_at t id held ≡ times id (ids_of t (map (λ h. (h.0, h.1.id)) held))
named_times t id [] = refl
named_times t id (h ∷ held) =
    elim (h.0 == t) as
    (λ b. cond b (cond (h.1.id == id) 1 0) 0 + named_at t id held
    ≡ times id (map (λ (k : ℕ × ℕ). k.1) (cond b ((h.0, h.1.id) ∷ filter (λ k. k.0 == t) (map (λ k. (k.0, k.1.id)) held)) (filter (λ k. k.0 == t) (map (λ k. (k.0, k.1.id)) held))))) [
      | true ↦ ap (λ n. cond (h.1.id == id) 1 0 + n) (named_times t id held)
      | false ↦ zero-add (named_at t id held) ∙ named_times t id held
    ]

module _ {V : Type 0} where
  -- ids are numbered upward, so that lower ones are not among them
  low : (c n id : ℕ) (fs : List (First V)) → id < n → times id (ids_naming c n fs) ≡ 0
  low c n id [] lt = refl
  low c n id (f ∷ fs) lt =
      let rest = low c (n + 1) id fs (omega (arith, lt)) in
      elim (is_named c f) as (λ b. times id (cond b (n ∷ ids_naming c (n + 1) fs) (ids_naming c (n + 1) fs)) ≡ 0) [
        | true ↦ let none : cond (n == id) 1 0 ≡ 0 = ap (λ b. one_of b) (ne_eqb n id (λ e. absurd (omega (arith, e, lt)))) in omega (arith, none, rest)
        | false ↦ rest
      ]

  once : (c n id : ℕ) (fs : List (First V)) → times id (ids_naming c n fs) ≡ cond (list_any (λ i. i == id) (ids_naming c n fs)) 1 0
  once c n id [] = refl
  once c n id (f ∷ fs) =
      let rest = once c (n + 1) id fs in
      elim (is_named c f) as
      (λ b. times id (cond b (n ∷ ids_naming c (n + 1) fs) (ids_naming c (n + 1) fs))
      ≡ cond (list_any (λ i. i == id) (cond b (n ∷ ids_naming c (n + 1) fs) (ids_naming c (n + 1) fs))) 1 0) [
        | true ↦
            elim (cases_eq n id) [
              | inl same ↦
                  let here = eq-eqb n id same in
                  let none = low c (n + 1) id fs (omega (arith, same)) in
                  let one : cond (n == id) 1 0 ≡ 1 = ap (λ b. one_of b) here in
                  let sum : cond (n == id) 1 0 + times id (ids_naming c (n + 1) fs) ≡ 1 = omega (arith, one, none) in
                  sum ∙ sym (ap (λ b. one_of (b || list_any (λ i. i == id) (ids_naming c (n + 1) fs))) here)
              | inr ne ↦
                  let away = ne_eqb n id ne in
                  ap (λ b. one_of b + times id (ids_naming c (n + 1) fs)) away ∙ zero-add (times id (ids_naming c (n + 1) fs)) ∙ rest
                  ∙ sym (ap (λ b. one_of (b || list_any (λ i. i == id) (ids_naming c (n + 1) fs))) away)
            ]
        | false ↦ rest
      ]

  few_held :
      (c : ℕ) (before fs : List (First V)) → length (held_from c before fs) ≡ count_by (is_named c) fs
  few_held c before [] = refl
  few_held c before (f ∷ fs) =
      let rest = few_held c (before ++ f ∷ []) fs in
      elim (is_named c f) as
      (λ b. length (cond b ((f.trustee, length (placed_on f.trustee before) + 1) ∷ held_from c (before ++ f ∷ []) fs) (held_from c (before ++ f ∷ []) fs))
      ≡ cond b 1 0 + count_by (is_named c) fs) [
        | true ↦ let one : suc (length (held_from c (before ++ f ∷ []) fs)) ≡ 1 + count_by (is_named c) fs = omega (arith, rest) in one
        | false ↦ rest ∙ sym (zero-add (count_by (is_named c) fs))
      ]
      ∙ sym (sum_by-cons (λ x. one_of (is_named c x)) f fs)

  below_held :
      (c n : ℕ) (before fs : List (First V)) → AllByRecursion (λ f. f.trustee < n) fs → AllByRecursion (λ h. h.0 < n) (held_from c before fs)
  below_held c n before [] all = tt
  below_held c n before (f ∷ fs) all =
      let rest = below_held c n (before ++ f ∷ []) fs all.1 in
      elim (is_named c f) as
      (λ b. AllByRecursion (λ (h : ℕ × ℕ). h.0 < n) (cond b ((f.trustee, length (placed_on f.trustee before) + 1) ∷ held_from c (before ++ f ∷ []) fs) (held_from c (before ++ f ∷ []) fs))) [
        | true ↦ (all.0, rest)
        | false ↦ rest
      ]

all_names : (n : ℕ) (held : List (ℕ × Name)) → AllByRecursion (λ (h : ℕ × ℕ). h.0 < n) (map (λ (h : ℕ × Name). (h.0, h.1.id)) held) → AllByRecursion (λ (h : ℕ × Name). h.0 < n) held
all_names n [] all = tt
all_names n (h ∷ held) all = (all.0, all_names n held all.1)

-- a client's parts at first
pub may_begin :
    {V O R T : Type 0} (kind : Kind V O R T) (config : Config) (first : List (First V)) (c : ℕ) (held : List (ℕ × Name)) (sides : ℕ)
    → IsBuildable config first → c < config.clients → sides ≡ config.trustees → map (λ h. (h.0, h.1.id)) held ≡ held_of c first
    → MayBegin V O R T c config first sides held
may_begin {V} {O} {R} {T} kind config first c held sides can lt many is = record {
  buildable = can;
  number_of = lt;
  sides_of = many;
  trustees = all_names config.trustees held
      (subst (λ hs. AllByRecursion (λ (h : ℕ × ℕ). h.0 < config.trustees) hs) (sym is) (below_held c config.trustees [] first can.trustee));
  given = λ t id below.
      let s = opening_of {V = V} {O = O} {R = R} {T = T} t config first in
      named_times t id held ∙ ap (λ hs. times id (ids_of t hs)) is ∙ ap (λ xs. times id xs) (held_ids c t [] first) ∙ once c 1 id (placed_on t first)
      ∙ sym ((openings_give kind s t config first c refl (omega (arith, lt))).holds id);
  most =
      let same : length held ≡ count_by (is_named c) first =
      sym (length-map held (λ h. (h.0, h.1.id))) ∙ ap (λ hs. length hs) is ∙ few_held c [] first in
      let few = can.named c lt in omega (arith, same, few);
}
