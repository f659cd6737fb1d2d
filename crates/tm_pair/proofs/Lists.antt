-- What holds of any lists, for the files beside. Other crates import this file.
use Rattle.std.proofs.Common.{◌≡◌, ℕ, zero, suc, ◌-◌, ◌≤◌, List, [], ◌∷◌, ◌++◌, length, map, drop, refl, ◌∙◌, ap, arith, length-append}
use Rattle.std.specs.Prelude.{IsSomeAnd}
use Rattle.std.specs.declared.option.Option.{Option}
use Rattle.std.specs.declared.option.Option.TheVariants.{None, Some}
use Rattle.std.proofs.Math.ListN.{replicate}
use Rattle.std.proofs.Math.Seq.{drop-append_seam}

module _ {X : Type 0} where
  pub nil_by_length : (l : List X) → length l ≤ 0 → l ≡ []
  nil_by_length [] h = refl
  nil_by_length (x ∷ l) h = let wrong : ⊥ = omega (arith, h) in absurd wrong

  -- what joins a list to itself is empty
  pub same_join : (l m : List X) → l ≡ l ++ m → m ≡ []
  same_join l m e = let n : length l ≡ length (l ++ m) = ap (λ x. length x) e in let joined = length-append l m in nil_by_length m (omega (arith, n, joined))

  -- the last of a list, as many as were joined to it
  pub last_joined : (all front b : List X) (n : ℕ) → all ≡ front ++ b → n ≡ length b → drop (length all - n) all ≡ b
  last_joined all front b n is many =
      let joined = length-append front b in
      let at : length (front ++ b) - n ≡ length front = omega (arith, joined, many) in
      ap (λ l. drop (length l - n) l) is ∙ ap (λ k. drop k (front ++ b)) at ∙ drop-append_seam front b

  -- the value of which something holds
  pub of_some : (o : Option X) (P : X → Type 0) → IsSomeAnd o P → (x : X) × (o ≡ Some x) × P x
  of_some None P h = absurd h
  of_some (Some x) P h = (x, refl, h)

pub map-replicate : {X Y : Type 0} (f : X → Y) (n : ℕ) (x : X) → map f (replicate n x) ≡ replicate n (f x)
map-replicate f zero x = refl
map-replicate f (suc n) x = ap (λ l. f x ∷ l) (map-replicate f n x)
