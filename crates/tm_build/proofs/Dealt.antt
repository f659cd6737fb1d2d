-- The objects of the build, one more of them dealt to its trustee.
use Rattle.std.proofs.Common.{◌≡◌, ◌≢◌, ℕ, ◌+◌, ◌==◌, ◌<◌, cond, true, false, inl, inr, List, [], ◌∷◌, ◌++◌, length, map, refl, sym, ◌∙◌, ap, subst, arith, slice_index_or, slice_set, length-set, append-nil, eq-eqb, ne_eqb}
use Rattle.std.specs.List.{AllByRecursion}
use Rattle.std.proofs.Math.ListN.{replicate}
use Rattle.std.proofs.lemmas.Bool.{cases_eq}
use Rattle.std.proofs.lemmas.List.{map_push, map-set, replicate_more, get_or-map, length-map, length-replicate, get_or-replicate, get_or-set_same, get_or-set_other, nil_from_length}
use Rattle.tm_batch.specs.declared.config.First.{First}
use Rattle.tm_model.specs.Opening.{placed_on}
use Rattle.tm_build.specs.Dealing.{AreSplit}

-- one empty list more
pub none_more :
    {L X : Type 0} (lists news : List L) (v : L) (items : L → List X) (n : ℕ) → news ≡ lists ++ v ∷ [] → items v ≡ [] → map items lists ≡ replicate n []
    → map items news ≡ replicate (n + 1) []
none_more lists news v items n is empty all =
    ap (λ xs. map items xs) is ∙ map_push items lists v ∙ ap (λ xs. xs ++ items v ∷ []) all ∙ ap (λ x. replicate n [] ++ x ∷ []) empty ∙ replicate_more n []

-- what holds of each element holds of one between others
pub all_middle : {X : Type 0} (P : X → Type 0) (xs ys : List X) (x : X) → AllByRecursion P (xs ++ x ∷ ys) → P x
all_middle P [] ys x all = all.0
all_middle P (y ∷ xs) ys x all = all_middle P xs ys x all.1

module _ {V : Type 0} where
  -- the objects of two lists on one trustee
  pub placed_join : (u : ℕ) (xs ys : List (First V)) → placed_on u (xs ++ ys) ≡ placed_on u xs ++ placed_on u ys
  placed_join u [] ys = refl
  placed_join u (f ∷ xs) ys =
      elim (f.trustee == u) as
      (λ b. cond b (f ∷ placed_on u (xs ++ ys)) (placed_on u (xs ++ ys)) ≡ cond b (f ∷ placed_on u xs) (placed_on u xs) ++ placed_on u ys) [
        | true ↦ ap (λ zs. f ∷ zs) (placed_join u xs ys)
        | false ↦ placed_join u xs ys
      ]

  -- one more object, on its trustee and on another
  pub placed_here : (xs : List (First V)) (f : First V) (u : ℕ) → f.trustee ≡ u → placed_on u (xs ++ f ∷ []) ≡ placed_on u xs ++ f ∷ []
  placed_here xs f u is = placed_join u xs (f ∷ []) ∙ ap (λ b. placed_on u xs ++ cond b (f ∷ []) []) (eq-eqb f.trustee u is)

  pub placed_away : (xs : List (First V)) (f : First V) (u : ℕ) → f.trustee ≢ u → placed_on u (xs ++ f ∷ []) ≡ placed_on u xs
  placed_away xs f u ne =
      placed_join u xs (f ∷ []) ∙ ap (λ b. placed_on u xs ++ cond b (f ∷ []) []) (ne_eqb f.trustee u ne) ∙ append-nil (placed_on u xs)

  none_split : (trustees : ℕ) (lists : List (List (First V))) → lists ≡ replicate trustees [] → AreSplit trustees [] lists
  none_split trustees lists is = record {
    count = ap length is ∙ length-replicate trustees [];
    each = λ t lt. ap (λ xs. slice_index_or xs t []) is ∙ get_or-replicate trustees t [] [] lt;
  }

  pub split_none :
      {L : Type 0} (trustees : ℕ) (lists : List L) (items : L → List (First V)) → map items lists ≡ replicate trustees [] → AreSplit trustees [] (map items lists)
  split_none trustees lists items is = none_split trustees (map items lists) is

  split_set :
      (trustees : ℕ) (xs : List (First V)) (f : First V) (lists : List (List (First V))) (list : List (First V)) → f.trustee < trustees
      → list ≡ slice_index_or lists f.trustee [] → AreSplit trustees xs lists
      → AreSplit trustees (xs ++ f ∷ []) (slice_set lists f.trustee (list ++ f ∷ []))
  split_set trustees xs f lists list lt is are =
      let many = are.count in
      record {
        count = length-set lists f.trustee (list ++ f ∷ []) ∙ are.count;
        each = λ t below.
            elim (cases_eq t f.trustee) [
              | inl here ↦
                  let within : f.trustee < length lists = omega (arith, lt, many) in
                  ap (λ k. slice_index_or (slice_set lists f.trustee (list ++ f ∷ [])) k []) here
                  ∙ get_or-set_same lists f.trustee (list ++ f ∷ []) [] within
                  ∙ ap (λ l. l ++ f ∷ []) (is ∙ are.each f.trustee lt) ∙ sym (placed_here xs f f.trustee refl)
                  ∙ ap (λ k. placed_on k (xs ++ f ∷ [])) (sym here)
              | inr ne ↦
                  get_or-set_other lists f.trustee t (list ++ f ∷ []) [] ne ∙ are.each t below ∙ sym (placed_away xs f t (λ e. ne (sym e)))
            ];
      }

  -- one object more, behind those of its trustee
  pub split_more :
      {L : Type 0} (trustees : ℕ) (xs : List (First V)) (f : First V) (lists news : List L) (old new : L) (items : L → List (First V))
      → f.trustee < length lists → old ≡ slice_index_or lists f.trustee old → items new ≡ items old ++ f ∷ [] → news ≡ slice_set lists f.trustee new
      → AreSplit trustees xs (map items lists) → AreSplit trustees (xs ++ f ∷ []) (map items news)
  split_more trustees xs f lists news old new items lt was is set are =
      let many = are.count in
      let same = length-map lists items in
      let at : items old ≡ slice_index_or (map items lists) f.trustee [] =
      ap items was ∙ sym (get_or-map items lists f.trustee old [] lt) in
      let lists_are : map items news ≡ slice_set (map items lists) f.trustee (items old ++ f ∷ []) =
      ap (λ ls. map items ls) set ∙ map-set items lists f.trustee new ∙ ap (λ x. slice_set (map items lists) f.trustee x) is in
      subst (λ ls. AreSplit trustees (xs ++ f ∷ []) ls) (sym lists_are)
      (split_set trustees xs f (map items lists) (items old) (omega (arith, lt, many, same)) at are)

  -- all objects are dealt where none is left
  pub split_all :
      (trustees : ℕ) (yielded first rest : List (First V)) (lists : List (List (First V))) → length rest ≡ 0 → yielded ++ rest ≡ first
      → AreSplit trustees yielded lists → AreSplit trustees first lists
  split_all trustees yielded first rest lists none whole are =
      subst (λ l. AreSplit trustees l lists) (sym (append-nil yielded) ∙ ap (λ l. yielded ++ l) (sym (nil_from_length rest none)) ∙ whole) are
