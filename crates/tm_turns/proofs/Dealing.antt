-- Sides that are dealt to the lists of their places.
use Rattle.std.proofs.Common.{◌≡◌, ℕ, zero, suc, ◌+◌, ◌≤◌, ◌<◌, ◌⊎◌, inl, inr, List, [], ◌∷◌, ◌++◌, length, map, refl, sym, ◌∙◌, ap, subst, arith}
use Rattle.std.specs.Prelude.{slice_get, slice_set, slice_index_or}
use Rattle.std.specs.declared.option.Option.TheVariants.{Some}
use Rattle.std.proofs.lemmas.List.{map-set, length-map, length-append, append-nil}
use Rattle.tm_trustee.proofs.Elements.{read_at, mapped}
use Rattle.tm_turns.specs.Opening.{dealt}

module _ {X : Type 0} where
  -- a list at a place after sides were dealt has the side of that place behind what it had, where there is one
  pub record IsDealt (sides : List X) (lists : List (List X)) (p : ℕ) (list : List X) : Type 0 where
    pub before : List X
    pub side : X
    pub of_list : slice_get lists p ≡ Some before
    pub of_side : slice_get sides p ≡ Some side
    pub is : list ≡ before ++ side ∷ []

  pub dealt_at :
      (sides : List X) (lists : List (List X)) (p : ℕ) (list : List X) → slice_get (dealt sides lists) p ≡ Some list
      → IsDealt sides lists p list ⊎ ((length sides ≤ p) × (slice_get lists p ≡ Some list))
  dealt_at [] lists p list at = inr (omega arith, at)
  dealt_at (s ∷ sides) [] p list at = absurd cc
  dealt_at (s ∷ sides) (l ∷ lists) zero list at =
      let is : l ++ s ∷ [] ≡ list = cc in inl (record { before = l; side = s; of_list = refl; of_side = refl; is = sym is })
  dealt_at (s ∷ sides) (l ∷ lists) (suc p) list at =
      elim (dealt_at sides lists p list at) [
        | inl d ↦ inl (record { before = d.before; side = d.side; of_list = d.of_list; of_side = d.of_side; is = d.is })
        | inr past ↦ let le = past.0 in inr (omega (arith, le), past.1)
      ]

  pub dealt_many : (sides : List X) (lists : List (List X)) → length (dealt sides lists) ≡ length lists
  dealt_many [] lists = refl
  dealt_many (s ∷ sides) [] = refl
  dealt_many (s ∷ sides) (l ∷ lists) = ap (λ n. suc n) (dealt_many sides lists)

  -- one side more
  pub dealt_more :
      (sides : List X) (side : X) (lists : List (List X)) (list : List X) → slice_get (dealt sides lists) (length sides) ≡ Some list
      → dealt (sides ++ side ∷ []) lists ≡ slice_set (dealt sides lists) (length sides) (list ++ side ∷ [])
  dealt_more [] side [] list at = absurd cc
  dealt_more [] side (l ∷ lists) list at = let is : l ≡ list = cc in ap (λ x. (x ++ side ∷ []) ∷ lists) is
  dealt_more (s ∷ sides) side [] list at = absurd cc
  dealt_more (s ∷ sides) side (l ∷ lists) list at = ap (λ xs. (l ++ s ∷ []) ∷ xs) (dealt_more sides side lists list at)

  -- the same of lists that are seen as such
  pub deal_more :
      {L : Type 0} (sides : List X) (side : X) (lists : List (List X)) (seats news : List L) (old new : L) (items : L → List X) (place : ℕ)
      → place ≡ length sides → place < length seats → old ≡ slice_index_or seats place old → items new ≡ items old ++ side ∷ []
      → news ≡ slice_set seats place new → map items seats ≡ dealt sides lists → map items news ≡ dealt (sides ++ side ∷ []) lists
  deal_more sides side lists seats news old new items place is lt was more set all =
      let at : slice_get (map items seats) place ≡ Some (items old) = mapped items seats place old (read_at seats place old lt was) in
      let there : slice_get (dealt sides lists) (length sides) ≡ Some (items old) =
      subst (λ k. slice_get (dealt sides lists) k ≡ Some (items old)) is (subst (λ xs. slice_get xs place ≡ Some (items old)) all at) in
      ap (λ ls. map items ls) set ∙ map-set items seats place new ∙ ap (λ x. slice_set (map items seats) place x) more
      ∙ ap (λ xs. slice_set xs place (items old ++ side ∷ [])) all ∙ ap (λ k. slice_set (dealt sides lists) k (items old ++ side ∷ [])) is
      ∙ sym (dealt_more sides side lists (items old) there)

  -- there is a list for each side
  pub deal_room :
      {L : Type 0} (sides all : List X) (side : X) (rest : List X) (lists : List (List X)) (seats : List L) (items : L → List X) (place : ℕ)
      → place ≡ length sides → sides ++ side ∷ rest ≡ all → length all ≤ length lists → map items seats ≡ dealt sides lists → place < length seats
  deal_room sides all side rest lists seats items place is whole few dealt_is =
      let many : length seats ≡ length lists = sym (length-map seats items) ∙ ap (λ xs. length xs) dealt_is ∙ dealt_many sides lists in
      let sum : length all ≡ length sides + suc (length rest) = ap (λ xs. length xs) (sym whole) ∙ length-append sides (side ∷ rest) in
      omega (arith, is, few, many, sum)

  pub deal_all :
      {L : Type 0} (sides all rest : List X) (lists : List (List X)) (seats : List L) (items : L → List X) → rest ≡ [] → sides ++ rest ≡ all
      → map items seats ≡ dealt sides lists → map items seats ≡ dealt all lists
  deal_all sides all rest lists seats items none whole dealt_is =
      dealt_is ∙ ap (λ xs. dealt xs lists) (sym (append-nil sides) ∙ ap (λ r. sides ++ r) (sym none) ∙ whole)

  pub few_seats : {L : Type 0} (sides : List X) (seats : List L) (items : L → List X) → length sides ≤ length seats → length sides ≤ length (map items seats)
  few_seats sides seats items le = let same = length-map seats items in omega (arith, le, same)
