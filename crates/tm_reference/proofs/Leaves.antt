-- What leaves with a batch.
use Rattle.std.proofs.Common.{◌≡◌, ℕ, ◌+◌, ◌<◌, zero, suc, min, List, [], ◌∷◌, ◌++◌, length, take, drop, slice_index_or, slice_set, refl, sym, ◌∙◌, ap, arith, add-one}
use Rattle.std.specs.List.{remove}
use Rattle.std.proofs.Math.Nat.{min-zero, suc-min-suc}
use Rattle.std.proofs.lemmas.List.{get_or_default}
use Rattle.tm_seq.specs.Kind.{Kind}
use Rattle.tm_batch.specs.declared.limits.TheConstants.{MOST_COMPLETIONS}
use Rattle.tm_model.specs.declared.entry.Entry.TheVariants.{Sent}
use Rattle.tm_model.specs.State.{Place, State, no_place, place_of}
use Rattle.tm_model.specs.Serve.{after}

module _ {X : Type 0} where
  front_next :
      (xs : List X) (i : ℕ) (x : X) → i < length xs → x ≡ slice_index_or (drop i xs) 0 x
      → (take i xs ++ x ∷ [] ≡ take (suc i) xs) × (remove (drop i xs) 0 ≡ drop (suc i) xs)
  front_next [] i x lt e = absurd (omega (arith, lt))
  front_next (y ∷ xs) zero x lt e = (ap (λ (z : X). z ∷ []) e, refl)
  front_next (y ∷ xs) (suc i) x lt e =
      let more = front_next xs i x (omega (arith, lt)) e in (ap (λ (l : List X). y ∷ l) more.0, more.1)

  -- one more of the first elements
  pub front_more :
      (xs taken left : List X) (i : ℕ) (x : X) → i < length xs → taken ≡ take i xs → left ≡ drop i xs → x ≡ slice_index_or left 0 x
      → (taken ++ x ∷ [] ≡ take (i + 1) xs) × (remove left 0 ≡ drop (i + 1) xs)
  front_more xs taken left i x lt front rest e =
      let at : x ≡ slice_index_or (drop i xs) 0 x = e ∙ ap (λ (l : List X). slice_index_or l 0 x) rest in
      let more = front_next xs i x lt at in
      rw (add-one, front, rest) more

  take_none : (n : ℕ) → take {A = X} n [] ≡ []
  take_none zero = refl
  take_none (suc n) = refl

  drop_none : (n : ℕ) → drop {A = X} n [] ≡ []
  drop_none zero = refl
  drop_none (suc n) = refl

  -- all of them, or so many
  pub take_least : (xs : List X) (n : ℕ) → take (min (length xs) n) xs ≡ take n xs
  take_least [] n = take_none (min 0 n) ∙ sym (take_none n)
  take_least (x ∷ xs) zero = rw (min-zero (length (x ∷ xs))) refl
  take_least (x ∷ xs) (suc n) = rw (suc-min-suc (length xs) n) (ap (λ (l : List X). x ∷ l) (take_least xs n))

  pub drop_least : (xs : List X) (n : ℕ) → drop (min (length xs) n) xs ≡ drop n xs
  drop_least [] n = drop_none (min 0 n) ∙ sym (drop_none n)
  drop_least (x ∷ xs) zero = rw (min-zero (length (x ∷ xs))) refl
  drop_least (x ∷ xs) (suc n) = rw (suc-min-suc (length xs) n) (drop_least xs n)

module _ {V O R T : Type 0} where
  -- the place that was read is that of the state
  pub read_place :
      {v s : State V O R T} → v ≡ s → (c : ℕ) (p : Place V O R T) → c < length v.places → p ≡ slice_index_or v.places c p → p ≡ place_of s c
  read_place {v} {s} e c p within at =
      at ∙ get_or_default v.places c p no_place within ∙ ap (λ (t : State V O R T). place_of t c) e

  pub sends :
      (kind : Kind V O R T) {v s : State V O R T} → v ≡ s → (c room : ℕ) (p q : Place V O R T) → c < length v.places
      → p ≡ slice_index_or v.places c p → q ≡ record p { gifts = drop room p.gifts; ready = drop MOST_COMPLETIONS p.ready }
      → record v { places = slice_set v.places c q } ≡ after kind s (Sent c room)
  sends kind {v} {s} e c room p q within at is =
      let here : p ≡ place_of v c = at ∙ get_or_default v.places c p no_place within in
      ap (λ (z : Place V O R T). record v { places = slice_set v.places c z })
      (is ∙ ap (λ (z : Place V O R T). record z { gifts = drop room z.gifts; ready = drop MOST_COMPLETIONS z.ready }) here)
      ∙ ap (λ (t : State V O R T). after kind t (Sent c room)) e
