-- There is room for one more launch.
use Rattle.std.proofs.Common.{◌≡◌, ℕ, ◌+◌, ◌*◌, ◌<◌, ◌≤◌, cond, true, false, List, [], ◌∷◌, ◌++◌, length, inl, inr, refl, sym, ◌∙◌, ap, subst, arith, eq-eqb, ne_eqb, length-append}
use Rattle.std.specs.Prelude.{◌==◌, IsSome}
use Rattle.std.specs.List.{AllByRecursion}
use Rattle.std.proofs.lemmas.Bool.{cases_eq, false≢true}
use Rattle.std.proofs.lemmas.List.{length-map}
use Rattle.tm_batch.specs.declared.limits.TheConstants.{WINDOW}
use Rattle.tm_batch.specs.declared.message.Name.{Name}
use Rattle.tm_batch.specs.declared.message.Request.TheVariants.{Launch}
use Rattle.tm_latch.specs.declared.ticket.Ticket.{Ticket}
use Rattle.tm_latch.specs.Tickets.{tickets_of}
use Rattle.tm_model.specs.State.{Start, Work, Object, Place, State, object_of, place_of, place_count}
use Rattle.tm_model.specs.Holds.{works_of, unfinished}
use Rattle.tm_model.specs.Laws.{IsSoundObject}
use Rattle.tm_core.proofs.CallerLemmas.{all_weaker, all-append}
use Rattle.tm_core.proofs.Unfinished.{works_of-append}
use Rattle.tm_state.specs.Launches.{Pending, work_of, works_at}
use Rattle.tm_state.specs.StateView.{StateView}
use Rattle.tm_state.specs.Asking.{IsAsked}
use Rattle.tm_state.proofs.RowsTotal.{all_below, below_few}

module _ {V T : Type 0} where
  -- the launches of all objects
  all_works : List (Object V T) → List (Work T)
  all_works [] = []
  all_works (o ∷ live) = o.works ++ all_works live

  works_of_all : (c : ℕ) (live : List (Object V T)) → works_of c (all_works live) ≡ unfinished c live
  unfolding all_works
  works_of_all c [] = refl
  works_of_all c (o ∷ live) = works_of-append c o.works (all_works live) ∙ ap (λ n. works_of c o.works + n) (works_of_all c live)

  all_within : (n next : ℕ) (live : List (Object V T)) → AllByRecursion (λ o. AllByRecursion (λ w. (w.place < n) × (w.ticket < next)) o.works) live → AllByRecursion (λ w. w.place < n) (all_works live)
  unfolding all_works
  all_within n next [] h = tt
  all_within n next (o ∷ live) h = all-append _ o.works (all_works live) (all_weaker _ _ o.works (λ w k. k.0) h.0) (all_within n next live h.1)

  -- how many of some launches are of some objects
  tickets_sum : List (Object V T) → List (Ticket (Pending T)) → ℕ
  tickets_sum [] ts = 0
  tickets_sum (o ∷ live) ts = length (tickets_of o.id ts) + tickets_sum live ts

  sum_is : (launched : List (Ticket (Pending T))) (live : List (Object V T)) → AllByRecursion (λ o. works_at o.id launched ≡ o.works) live → tickets_sum live launched ≡ length (all_works live)
  unfolding tickets_sum all_works
  sum_is launched [] h = refl
  sum_is launched (o ∷ live) h =
      let long = length-map (tickets_of o.id launched) work_of in
      let same = ap length h.0 in
      let both = length-append o.works (all_works live) in
      let more = sum_is launched live h.1 in
      omega (arith, long, same, both, more)

  sum_grows : (t : Ticket (Pending T)) (ts : List (Ticket (Pending T))) (live : List (Object V T)) → tickets_sum live ts ≤ tickets_sum live (t ∷ ts)
  unfolding tickets_sum
  sum_grows t ts [] = omega arith
  sum_grows t ts (o ∷ live) =
      let more = sum_grows t ts live in
      elim (t.id == o.id) as (λ b. length (tickets_of o.id ts) + tickets_sum live ts ≤ length (cond b (t ∷ tickets_of o.id ts) (tickets_of o.id ts)) + tickets_sum live (t ∷ ts)) [
        | true ↦ omega (arith, more)
        | false ↦ omega (arith, more)
      ]

  sum_more : (t : Ticket (Pending T)) (ts : List (Ticket (Pending T))) (live : List (Object V T)) → IsSome (object_of live t.id) → 1 + tickets_sum live ts ≤ tickets_sum live (t ∷ ts)
  unfolding tickets_sum
  sum_more t ts [] some = absurd (false≢true some)
  sum_more t ts (o ∷ live) some =
      elim (cases_eq o.id t.id) [
        | inl e ↦ let more = sum_grows t ts live in rw (eq-eqb t.id o.id (sym e)) (omega (arith, more))
        | inr ne ↦
            let more = sum_more t ts live (rw (ne_eqb o.id t.id ne) at some) in
            rw (ne_eqb t.id o.id (λ e. ne (sym e))) (omega (arith, more))
      ]

  launched_few : (launched : List (Ticket (Pending T))) (live : List (Object V T)) → AllByRecursion (λ t. IsSome (object_of live t.id)) launched → length launched ≤ tickets_sum live launched
  launched_few [] live h = omega arith
  launched_few (t ∷ launched) live h =
      let more = launched_few launched live h.1 in
      let one = sum_more t launched live h.0 in
      omega (arith, more, one)

module _ {V O R T : Type 0} where
  -- there are fewer launches than all places may have together, where one more may be launched
  pub launched_room :
      {opening s : State V O R T} {c : ℕ} {h : StateView V O R T} (n : Name) (task : T) → IsAsked opening s c (Launch n task) h
      → length h.launched < WINDOW * length h.closed
  launched_room {opening} {s} {c} {h} n task asked =
      let k = asked.keeps in
      let w : Work T = record { place = c; ticket = 0; task = task; awaits = Start } in
      let all = all_works s.live in
      let count = place_count opening.setup in
      let within = all_within count s.next_ticket s.live (all_weaker (IsSoundObject opening s) _ s.live (λ o h. h.works) asked.sound.objects) in
      let few = launched_few h.launched s.live k.live in
      let sum = sum_is h.launched s.live k.works in
      let wide : length h.closed ≡ length s.places = ap length k.closed ∙ length-map s.places (λ (p : Place V O R T). p.is_closed) in
      let places = asked.sound.places in
      let setup = ap (λ x. place_count x) asked.sound.setup in
      let own : c < count = let lt = asked.may.in_range in omega (arith, lt, setup) in
      let long = all_below count (w ∷ all) (own, within) in
      let most = below_few count (w ∷ all)
      (λ d lt.
      let is = works_of_all d s.live in
      let most = k.most d (omega (arith, lt, places)) in
      elim (cases_eq c d) [
        | inl e ↦
            let may : unfinished d s.live + length (place_of s d).ready + (1 + 0) ≤ WINDOW = subst (λ x. unfinished x s.live + length (place_of s x).ready + (1 + 0) ≤ WINDOW) e asked.may.launches in
            rw (eq-eqb c d e) (omega (arith, may, is))
        | inr ne ↦ rw (ne_eqb c d ne) (omega (arith, most, is))
      ]) in
      omega (arith, few, sum, long, most, wide, places)
