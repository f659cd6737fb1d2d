-- The completions that are ready, in a queue for each place.
use Rattle.std.proofs.Common.{◌≡◌, ℕ, ◌+◌, ◌<◌, List, [], ◌∷◌, ◌++◌, length, get_or, set, sym, ap, ◌∙◌}
use Rattle.std.specs.Prelude.{map, replicate, All}
use Rattle.std.proofs.lemmas.List.{map-append, map-set, get_or-map, length-map, replicate-append-replicate}
use Rattle.std.proofs.lemmas.List.Elements.{All-set, All-push, All-get_or}
use Rattle.circular_buffer.specs.Buffer.{Buffer, buffer}
use Rattle.tm_batch.specs.declared.limits.TheConstants.{WINDOW}
use Rattle.tm_objects.proofs.Queues.{waiting-set, waiting_at}

module _ {X : Type 0} where
  pub room_at : (qs : List (Buffer X)) (i : ℕ) (b : Buffer X) → i < length qs → b ≡ get_or qs i b → All (λ n. n ≡ WINDOW) (map (λ q. q.capacity) qs) → b.capacity ≡ WINDOW
  room_at qs i b within is all =
      let e = get_or-map (λ (q : Buffer X). q.capacity) qs i b 0 within in
      let a = All-get_or (λ n. n ≡ WINDOW) (map (λ (q : Buffer X). q.capacity) qs) i 0 (rw length-map within) all in
      ap (λ (q : Buffer X). q.capacity) is ∙ (sym e ∙ a)

  -- a queue that is written with the same room leaves the room of each
  pub rooms-set :
      (qs : List (Buffer X)) (i : ℕ) (b new : Buffer X) → i < length qs → b ≡ get_or qs i b → new.capacity ≡ b.capacity
      → All (λ n. n ≡ WINDOW) (map (λ q. q.capacity) qs) → All (λ n. n ≡ WINDOW) (map (λ q. q.capacity) (set qs i new))
  rooms-set qs i b new within is same all =
      rw (map-set (λ (q : Buffer X). q.capacity) qs i new) (All-set (λ n. n ≡ WINDOW) (map (λ q. q.capacity) qs) i new.capacity (same ∙ room_at qs i b within is all) all)

  -- what is ready after a queue is written
  pub ready-set :
      (qs : List (Buffer X)) (view : List (List X)) (i : ℕ) (b new : Buffer X) (f : List X → List X) → map (λ q. q.items) qs ≡ view → i < length qs
      → b ≡ get_or qs i b → new.items ≡ f b.items → map (λ q. q.items) (set qs i new) ≡ set view i (f (get_or view i []))
  ready-set qs view i b new f seen within is wrote =
      waiting-set qs i new ∙ ap (λ (l : List (List X)). set l i new.items) seen
      ∙ ap (set view i) (wrote ∙ ap f (waiting_at qs i b within is ∙ ap (λ (l : List (List X)). get_or l i []) seen))

  -- one queue more
  pub rooms-push : (qs : List (Buffer X)) (b : Buffer X) → b ≡ buffer [] WINDOW → All (λ n. n ≡ WINDOW) (map (λ q. q.capacity) qs) → All (λ n. n ≡ WINDOW) (map (λ q. q.capacity) (qs ++ b ∷ []))
  rooms-push qs b is all = rw (map-append (λ (q : Buffer X). q.capacity) qs (b ∷ [])) (All-push (λ n. n ≡ WINDOW) (map (λ q. q.capacity) qs) b.capacity all (ap (λ (q : Buffer X). q.capacity) is))

  pub ready-push : (qs : List (Buffer X)) (b : Buffer X) (n : ℕ) → b ≡ buffer [] WINDOW → map (λ q. q.items) qs ≡ replicate n [] → map (λ q. q.items) (qs ++ b ∷ []) ≡ replicate (n + 1) []
  ready-push qs b n is h =
      map-append (λ (q : Buffer X). q.items) qs (b ∷ [])
      ∙ (ap (λ (xs : List (List X)). xs ++ b.items ∷ []) h ∙ ap (λ (x : List X). replicate n [] ++ x ∷ []) (ap (λ (q : Buffer X). q.items) is) ∙ replicate-append-replicate {A = List X} n 1 [])
