-- Lemmas on queues, one for each place.
use Rattle.std.proofs.Common.{◌≡◌, ℕ, ◌+◌, ◌<◌, ◌≤◌, List, [], ◌∷◌, ◌++◌, length, get_or, set, Result, Ok, Err, refl, sym, ap, ◌∙◌}
use Rattle.std.specs.Prelude.{map, replicate, All, IsOk, OnOk}
use Rattle.std.proofs.lemmas.List.{map-append, map-set, get_or-map, length-map, replicate-append-replicate}
use Rattle.std.proofs.lemmas.List.Elements.{All-set, All-push, All-get_or}
use Rattle.circular_buffer.specs.Buffer.{Buffer, buffer}
use Rattle.tm_batch.specs.declared.limits.TheConstants.{MOST_GIFTS}

pub on_ok : {X E : Type 0} {P : Type 0} (r : Result X E) → IsOk r → OnOk r P → P
on_ok (Ok x) h p = p
on_ok (Err e) h p = absurd (cc)

module _ {X : Type 0} where
  -- a queue that is written with the same room leaves the room of each
  pub rooms-set : (qs : List (Buffer X)) (i : ℕ) (b : Buffer X) → b.capacity ≡ MOST_GIFTS → All (λ n. n ≡ MOST_GIFTS) (map (λ q. q.capacity) qs) → All (λ n. n ≡ MOST_GIFTS) (map (λ q. q.capacity) (set qs i b))
  rooms-set qs i b h all = rw (map-set (λ (q : Buffer X). q.capacity) qs i b) (All-set (λ n. n ≡ MOST_GIFTS) (map (λ q. q.capacity) qs) i b.capacity h all)

  -- what waits after a queue is written
  pub waiting-set : (qs : List (Buffer X)) (i : ℕ) (b : Buffer X) → map (λ q. q.items) (set qs i b) ≡ set (map (λ q. q.items) qs) i b.items
  waiting-set qs i b = map-set (λ (q : Buffer X). q.items) qs i b

  -- a queue has room for 1,024 gifts
  pub room_at : (qs : List (Buffer X)) (i : ℕ) (b : Buffer X) → i < length qs → b ≡ get_or qs i b → All (λ n. n ≡ MOST_GIFTS) (map (λ q. q.capacity) qs) → b.capacity ≡ MOST_GIFTS
  room_at qs i b within is all =
      let e = get_or-map (λ (q : Buffer X). q.capacity) qs i b 0 within in
      let a = All-get_or (λ n. n ≡ MOST_GIFTS) (map (λ (q : Buffer X). q.capacity) qs) i 0 (rw length-map within) all in
      ap (λ (q : Buffer X). q.capacity) is ∙ (sym e ∙ a)

  -- what waits at a place is what its queue has
  pub waiting_at : (qs : List (Buffer X)) (i : ℕ) (b : Buffer X) → i < length qs → b ≡ get_or qs i b → b.items ≡ get_or (map (λ q. q.items) qs) i []
  waiting_at qs i b within is = ap (λ (q : Buffer X). q.items) is ∙ sym (get_or-map (λ (q : Buffer X). q.items) qs i b [] within)

  -- one queue more
  pub rooms-push : (qs : List (Buffer X)) → All (λ n. n ≡ MOST_GIFTS) (map (λ q. q.capacity) qs) → All (λ n. n ≡ MOST_GIFTS) (map (λ q. q.capacity) (qs ++ buffer [] MOST_GIFTS ∷ []))
  rooms-push qs all = rw (map-append (λ (q : Buffer X). q.capacity) qs (buffer [] MOST_GIFTS ∷ [])) (All-push (λ n. n ≡ MOST_GIFTS) (map (λ q. q.capacity) qs) MOST_GIFTS all refl)

  pub waiting-push : (qs : List (Buffer X)) (n : ℕ) → map (λ q. q.items) qs ≡ replicate n [] → map (λ q. q.items) (qs ++ buffer [] MOST_GIFTS ∷ []) ≡ replicate (n + 1) []
  waiting-push qs n h =
      map-append (λ (q : Buffer X). q.items) qs (buffer [] MOST_GIFTS ∷ [])
      ∙ (ap (λ (xs : List (List X)). xs ++ [] ∷ []) h ∙ replicate-append-replicate {A = List X} n 1 [])

  -- no more than 1,024 wait after a queue is written in which no more do
  pub few-set : (qs : List (Buffer X)) (i : ℕ) (b : Buffer X) → length b.items ≤ MOST_GIFTS → All (λ q. length q ≤ MOST_GIFTS) (map (λ q. q.items) qs) → All (λ q. length q ≤ MOST_GIFTS) (map (λ q. q.items) (set qs i b))
  few-set qs i b h all = rw (map-set (λ (q : Buffer X). q.items) qs i b) (All-set (λ q. length q ≤ MOST_GIFTS) (map (λ q. q.items) qs) i b.items h all)

  pub few_at : (qs : List (Buffer X)) (i : ℕ) → i < length qs → All (λ q. length q ≤ MOST_GIFTS) (map (λ q. q.items) qs) → length (get_or (map (λ q. q.items) qs) i []) ≤ MOST_GIFTS
  few_at qs i within all = All-get_or (λ q. length q ≤ MOST_GIFTS) (map (λ (q : Buffer X). q.items) qs) i [] (rw length-map within) all
