-- Items one by one.
use Rattle.std.proofs.Common.{◌≡◌, ℕ, ◌+◌, List, ◌∷◌, [], ◌++◌, take, Some, ap, ◌∙◌, sym, append_assoc}
use Rattle.std.specs.Prelude.{slice_get}
use Rattle.std.specs.List.{flat_map}
use Rattle.std.proofs.lemmas.List.{append-nil}
use Rattle.std.proofs.lemmas.Option.{slice_get_within, get_or_from_slice_get}
use Rattle.std.proofs.lemmas.Grind.{take_at_read, flat_map-append}

-- the bytes of one element more
pub flat_map-take_more : {X : Type 0} (f : X → List ℕ) (xs : List X) (i : ℕ) (x : X) → slice_get xs i ≡ Some x → flat_map f (take (i + 1) xs) ≡ flat_map f (take i xs) ++ f x
flat_map-take_more f xs i x e =
    let more = (take_at_read xs i x (slice_get_within xs i x e)).1 in
    let here = get_or_from_slice_get xs i x x e in
    ap (flat_map f) (more ∙ ap (λ y. take i xs ++ y ∷ []) here) ∙ flat_map-append f (take i xs) (x ∷ []) ∙ ap (λ t. flat_map f (take i xs) ++ t) (append-nil (f x))

-- the same behind other bytes
pub flat_map_on : {X : Type 0} (f : X → List ℕ) (xs : List X) (i : ℕ) (x : X) (front : List ℕ) → slice_get xs i ≡ Some x → (front ++ flat_map f (take i xs)) ++ f x ≡ front ++ flat_map f (take (i + 1) xs)
flat_map_on f xs i x front e = append_assoc front (flat_map f (take i xs)) (f x) ∙ ap (λ t. front ++ t) (sym (flat_map-take_more f xs i x e))
