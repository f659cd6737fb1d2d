-- The parts of some keys, one after another.
use Rattle.std.proofs.Common.{◌≡◌, ◌∙◌, ℕ, List, [], ◌∷◌, ◌++◌, map, length, ap, sym, arith}
use Rattle.std.proofs.lemmas.List.{append-nil, map_push}
use Rattle.mc_model.specs.Plain.{Part}
use Rattle.mc_route.specs.declared.parts.ShardPart.{ShardPart}

pub one_part_more : (f : Part → ShardPart) (g : List ℕ → Part) (keys : List (List ℕ)) (key : List ℕ) (parts new : List ShardPart) (part : ShardPart)
    → parts ≡ map f (map g keys) → part ≡ f (g key) → new ≡ parts ++ part ∷ [] → new ≡ map f (map g (keys ++ key ∷ []))
one_part_more f g keys key parts new part before is pushed =
    pushed ∙ ap (λ (l : List ShardPart). l ++ part ∷ []) before ∙ ap (λ (p : ShardPart). map f (map g keys) ++ p ∷ []) is
    ∙ sym (map_push f (map g keys) (g key)) ∙ ap (map f) (sym (map_push g keys key))

nothing_left : (xs : List (List ℕ)) → length xs ≡ 0 → xs ≡ []
nothing_left [] none = cc
nothing_left (x ∷ xs) none = absurd (omega arith)

pub all_parts : (f : Part → ShardPart) (g : List ℕ → Part) (keys yielded rest : List (List ℕ)) (parts : List ShardPart)
    → parts ≡ map f (map g yielded) → keys ≡ yielded ++ rest → length rest ≡ 0 → parts ≡ map f (map g keys)
all_parts f g keys yielded rest parts before still none =
    before ∙ ap (λ (l : List (List ℕ)). map f (map g l)) (sym (still ∙ ap (λ (l : List (List ℕ)). yielded ++ l) (nothing_left rest none) ∙ append-nil yielded))
