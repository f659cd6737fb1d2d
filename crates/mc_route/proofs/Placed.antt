-- Objects and holders, one after another.
use Rattle.std.proofs.Common.{◌≡◌, ◌∙◌, ℕ, ◌+◌, List, [], ◌∷◌, ◌++◌, map, take, Some, ap, sym, arith}
use Rattle.std.specs.Prelude.{slice_get}
use Rattle.std.specs.List.{range_with_len}
use Rattle.std.proofs.lemmas.List.{map-id}
use Rattle.std.proofs.lemmas.List.FromFn.{map-range_with_len_more}
use Rattle.std.proofs.lemmas.Option.{slice_get_within, get_or_from_slice_get}
use Rattle.std.proofs.lemmas.Grind.{take_at_read}
use Rattle.tm_seq.specs.declared.sum.Sum.TheVariants as sum
use Rattle.tm_batch.specs.declared.config.First.{First}
use Rattle.mc_model.specs.Class.{Class, new_class}
use Rattle.mc_route.specs.Places.{StoreValue, trustee_of, first_shard}

-- one number more
pub one_place_more : (places new : List ℕ) (n : ℕ) → places ≡ range_with_len 0 n → new ≡ places ++ n ∷ [] → new ≡ range_with_len 0 (n + 1)
one_place_more places new n before pushed =
    pushed ∙ ap (λ (l : List ℕ). l ++ n ∷ []) (before ∙ sym (map-id (range_with_len 0 n)))
    ∙ sym (map-range_with_len_more (λ k. k) 0 n n (omega arith)) ∙ map-id (range_with_len 0 (n + 1))

-- an object as it is placed
abbrev pub shard_at : ℕ → Class → List ℕ → First StoreValue
shard_at trustee shard holders = record { trustee = trustee; value = sum.First shard; holders = holders }

-- one class more
pub one_shard_more : (clients trustees bound : ℕ) (first new : List (First StoreValue)) (n trustee : ℕ) (shard : Class) (holders : List ℕ)
    → first ≡ map (first_shard clients trustees bound) (range_with_len 0 n) → trustee ≡ trustee_of n trustees → shard ≡ new_class n 0 bound → holders ≡ range_with_len 0 (clients + 1)
    → new ≡ first ++ shard_at trustee shard holders ∷ [] → new ≡ map (first_shard clients trustees bound) (range_with_len 0 (n + 1))
one_shard_more clients trustees bound first new n trustee shard holders before at is held pushed =
    let here : shard_at trustee shard holders ≡ first_shard clients trustees bound n =
    ap (λ t. shard_at t shard holders) at ∙ ap (λ (s : Class). shard_at (trustee_of n trustees) s holders) is ∙ ap (λ (h : List ℕ). shard_at (trustee_of n trustees) (new_class n 0 bound) h) held
    in
    pushed ∙ ap (λ (l : List (First StoreValue)). l ++ shard_at trustee shard holders ∷ []) before
    ∙ ap (λ (f : First StoreValue). map (first_shard clients trustees bound) (range_with_len 0 n) ++ f ∷ []) here
    ∙ sym (map-range_with_len_more (first_shard clients trustees bound) 0 n n (omega arith))

-- one element of a list more
pub one_taken_more : {X : Type 0} (xs copy new : List X) (i : ℕ) (x y : X) → slice_get xs i ≡ Some x → y ≡ x → copy ≡ take i xs → new ≡ copy ++ y ∷ [] → new ≡ take (i + 1) xs
one_taken_more {X} xs copy new i x y e same before pushed =
    let more = (take_at_read xs i x (slice_get_within xs i x e)).1 in
    let here = get_or_from_slice_get xs i x x e in
    pushed ∙ ap (λ (l : List X). l ++ y ∷ []) before ∙ ap (λ (z : X). take i xs ++ z ∷ []) (same ∙ sym here) ∙ sym more
