-- All holds on an object and its unfinished launches are few.
use Rattle.std.proofs.Common.{ℕ, zero, suc, ◌+◌, ◌*◌, ◌^◌, ◌<◌, ◌≤◌, List, [], ◌∷◌, length, sum, inl, inr, arith, eq-eqb}
use Rattle.std.specs.List.{AllByRecursion}
use Rattle.std.proofs.lemmas.Bool.{cases_eq}
use Rattle.std.proofs.lemmas.List.Sums.{sum_by-cons}
use Rattle.tm_batch.specs.declared.limits.TheConstants.{WINDOW}
use Rattle.tm_batch.specs.declared.message.Request.{Request}
use Rattle.tm_model.specs.State.{Work, State, place_count}
use Rattle.tm_model.specs.Holds.{works_of}
use Rattle.tm_model.specs.Laws.{IsOpening, IsSoundObject}
use Rattle.tm_objects.specs.Live.{total}
use Rattle.tm_objects.specs.Standing.{live_of}
use Rattle.tm_core.proofs.CallerLemmas.{all_weaker}
use Rattle.tm_core.proofs.Finding.{all_found}
use Rattle.tm_core.proofs.Unfinished.{unfinished_without}
use Rattle.tm_state.specs.StateView.{StateView}
use Rattle.tm_state.specs.Asking.{IsAsked}
use Rattle.tm_state.proofs.RowsOrder.{sound_ordered}
use Rattle.tm_state.proofs.RowsLive.{HeldAt}

-- a sum of numbers of 32 bits
sum_few : (ns : List ℕ) → AllByRecursion (λ n. n < 2 ^ 32) ns → sum ns ≤ 4294967295 * length ns
sum_few [] h = omega arith
sum_few (n ∷ ns) h =
    let more = sum_few ns h.1 in
    let first = h.0 in
    let both = sum_by-cons (λ x. x) n ns in
    omega (arith, more, first, both)

module _ {T : Type 0} where
  -- how many of some launches are of the first n places
  pub below : ℕ → List (Work T) → ℕ
  below zero ws = 0
  below (suc n) ws = works_of n ws + below n ws

  no_fewer : (n : ℕ) (w : Work T) (ws : List (Work T)) → below n ws ≤ below n (w ∷ ws)
  unfolding below
  no_fewer zero w ws = omega arith
  no_fewer (suc n) w ws = let more = no_fewer n w ws in omega (arith, more)

  one_more : (n : ℕ) (w : Work T) (ws : List (Work T)) → w.place < n → 1 + below n ws ≤ below n (w ∷ ws)
  unfolding below
  one_more zero w ws lt = absurd (omega (arith, lt))
  one_more (suc n) w ws lt =
      elim (cases_eq w.place n) [
        | inl e ↦ let more = no_fewer n w ws in rw (eq-eqb w.place n e) (omega (arith, more))
        | inr ne ↦ let more = one_more n w ws (omega (arith, lt, ne)) in omega (arith, more)
      ]

  pub all_below : (n : ℕ) (ws : List (Work T)) → AllByRecursion (λ w. w.place < n) ws → length ws ≤ below n ws
  all_below n [] h = omega arith
  all_below n (w ∷ ws) h = let more = all_below n ws h.1 in let one = one_more n w ws h.0 in omega (arith, more, one)

  pub below_few : (n : ℕ) (ws : List (Work T)) → ((c : ℕ) → c < n → works_of c ws ≤ WINDOW) → below n ws ≤ WINDOW * n
  unfolding below
  below_few zero ws h = omega arith
  below_few (suc n) ws h =
      let more = below_few n ws (λ c lt. h c (omega (arith, lt))) in
      let own = h n (omega arith) in
      omega (arith, more, own)

module _ {V O R T : Type 0} where
  -- a table has at most 95 places
  pub opening_few : (opening : State V O R T) → IsOpening opening → place_count opening.setup ≤ 95
  opening_few opening (number, config, first, can, below, is) =
      let clients = can.clients.1 in
      let trustees = can.trustees.1 in
      rw is (omega (arith, clients, trustees, below))

  -- all holds on an object and its launches are fewer than a `u64` counts
  pub total_few :
      {opening s : State V O R T} {c : ℕ} {q : Request V O R T} {h : StateView V O R T} {id : ℕ} → IsAsked opening s c q h → (at : HeldAt s h c id)
      → total (live_of at.object) < 18446744073709551615
  total_few {opening} {s} {id = id} asked at =
      let o = at.object in
      let n = place_count opening.setup in
      let sound = all_found (IsSoundObject opening s) id s.live o at.found asked.sound.objects in
      let holds = sum_few o.holds sound.holds in
      let long = sound.places in
      let few = opening_few opening asked.opens in
      let each : (d : ℕ) → d < n → works_of d o.works ≤ WINDOW = λ d lt.
      let most = asked.keeps.most d (omega (arith, lt, asked.sound.places)) in
      let gone = unfinished_without n 1 s.next_id d id s.live o (sound_ordered opening s asked.sound).rises at.found in
      omega (arith, most, gone) in
      let all = all_below n o.works (all_weaker _ (λ w. w.place < n) o.works (λ w k. k.0) sound.works) in
      let works = below_few n o.works each in
      omega (arith, holds, long, few, all, works)
