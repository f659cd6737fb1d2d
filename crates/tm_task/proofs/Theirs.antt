-- For each task that waits for an answer just one request counts, whatever is done. Callers of a turn may cite `theirs_then`.
use Rattle.std.proofs.Common.{◌≡◌, ◌≢◌, ℕ, zero, suc, ◌+◌, ◌≤◌, inl, inr, Bool, true, false, cond, List, [], ◌∷◌, ◌++◌, length, refl, sym, ◌∙◌, ap, subst, arith, eq-eqb, ne_eqb}
use Rattle.std.specs.Prelude.{◌==◌, nat_eq, nat_lt, drop, slice_get, slice_set}
use Rattle.std.specs.List.{IsDistinct}
use Rattle.std.specs.declared.option.Option.{Option}
use Rattle.std.specs.declared.option.Option.TheVariants.{None, Some}
use Rattle.std.proofs.lemmas.Bool.{cases_eq}
use Rattle.std.proofs.lemmas.Map.Keys.{IsDistinct-head, IsDistinct-tail}
use Rattle.tm_seq.specs.Kind.{Kind}
use Rattle.tm_batch.specs.declared.message.Answer.{Answer}
use Rattle.tm_batch.specs.declared.message.AnswerBatch.{AnswerBatch}
use Rattle.tm_batch.specs.declared.message.Completion.{Completion}
use Rattle.tm_batch.specs.declared.message.Name.{Name}
use Rattle.tm_batch.specs.declared.message.Request.TheVariants.{Apply as ApplyTo}
use Rattle.tm_pair.specs.Theory.{Theory}
use Rattle.tm_client.specs.declared.answers.Arrival.{Arrival}
use Rattle.tm_client.specs.declared.answers.Got.{Got}
use Rattle.tm_client.specs.declared.answers.Turn.{Turn}
use Rattle.tm_client.specs.declared.answers.Turn.TheVariants.{Sent, Pending, Got as GotSome, Idle}
use Rattle.tm_client.specs.declared.books.Books.{Books}
use Rattle.tm_client.specs.declared.lane.Lane.{Lane}
use Rattle.tm_client.specs.declared.lane.Unfinished.{Unfinished}
use Rattle.tm_client.specs.declared.lane.Waiting.{Waiting}
use Rattle.tm_client.specs.declared.trust.Trust.{Trust}
use Rattle.tm_client.specs.Asking.{HasAsked}
use Rattle.tm_client.specs.Listing.{is_at}
use Rattle.tm_client.specs.Taking.{HasTaken}
use Rattle.tm_client.specs.Launches.{ended_tickets, tickets_of, launch_of, other_launches, launches_left, arrival_by, launch_by, arrivals_of, launches_of, finish_of, finished_by, finished_of, with_told}
use Rattle.tm_client.specs.Turns.{HasTurned}
use Rattle.tm_client.proofs.Ended.{find_own, find_other, drop_own, keep_other, all_other, others_differ, others_distinct, left_more, left_none, rest_finish}
use Rattle.tm_client.proofs.Moving.{told_or_plain, arrival_plain, launch_plain}
use Rattle.tm_client.proofs.Listed.{at_own, at_other}
use Rattle.tm_task.specs.declared.deed.Deed.{Deed}
use Rattle.tm_task.specs.declared.deed.Deed.TheVariants.{Added, Started, Asked, Resumed, Turned}
use Rattle.tm_task.specs.declared.stage.Stage.{Stage}
use Rattle.tm_task.specs.declared.stage.Stage.TheVariants.{Fresh, Asks, Waits, Ended}
use Rattle.tm_task.specs.declared.task.Move.{Move}
use Rattle.tm_task.specs.declared.task.Move.TheVariants.{Apply, Done}
use Rattle.tm_task.specs.Ours.{of_waiting, of_launched, of_arrived, waiting_at, launched_at, counting_for, is_of, awaits, AreTheirs}
use Rattle.tm_task.specs.Rules.{Rules}
use Rattle.tm_task.specs.Runs.{World, Does, Runs}
use Rattle.tm_task.specs.Stages.{stage_of, IsStarted, IsAsked}
use Rattle.tm_task.proofs.Chains.{runs_keep}
use Rattle.tm_task.proofs.Places.{set_here, set_other, same_at_set}

-- one of number n for an object
abbrev one_for : ℕ → ℕ → ℕ → ℕ → ℕ → ℕ → ℕ
one_for n t id after trustee named = cond (after == n) (is_at t id trustee named) 0

cond_none : (b : Bool) (k : ℕ) → k ≡ 0 → cond b k 0 ≡ 0
cond_none true k e = e
cond_none false k e = refl

waiting_append : (n id : ℕ) (xs ys : List (Waiting ℕ)) → of_waiting n id (xs ++ ys) ≡ of_waiting n id xs + of_waiting n id ys
waiting_append n id [] ys = omega arith
waiting_append n id (x ∷ xs) ys = let more = waiting_append n id xs ys in omega (arith, more)

launched_append : (n id : ℕ) (xs ys : List (Unfinished ℕ)) → of_launched n id (xs ++ ys) ≡ of_launched n id xs + of_launched n id ys
launched_append n id [] ys = omega arith
launched_append n id (x ∷ xs) ys = let more = launched_append n id xs ys in omega (arith, more)

module _ {V O R K : Type 0} where
  arrived_append : (n t id : ℕ) (xs ys : List (Arrival V ℕ O R K)) → of_arrived n t id (xs ++ ys) ≡ of_arrived n t id xs + of_arrived n t id ys
  arrived_append n t id [] ys = omega arith
  arrived_append n t id (x ∷ xs) ys = let more = arrived_append n t id xs ys in omega (arith, more)

  -- what arrives of a trustee, or begins there, is what waited
  came_one : (n t id : ℕ) (w : Waiting ℕ) (a : Answer V O R K)
      → of_launched n id (launch_by w a) + of_arrived n t id (arrival_by t w a) ≡ cond (w.after == n) (cond (w.name.id == id) 1 0) 0
  came_one n t id w a = elim (told_or_plain a) [
    | inl (ticket, e) ↦ rw e (omega arith)
    | inr plain ↦
        let one : one_for n t id w.after t w.name.id ≡ cond (w.after == n) (cond (w.name.id == id) 1 0) 0 =
        ap (λ k. cond (w.after == n) k 0) (at_own t id w.name.id) in
        rw (arrival_plain t w a plain, launch_plain w a plain) (omega (arith, one))
  ]

  came_here : (n t id : ℕ) (ws : List (Waiting ℕ)) (answers : List (Answer V O R K))
      → of_waiting n id (drop (length answers) ws) + of_launched n id (launches_of ws answers) + of_arrived n t id (arrivals_of t ws answers)
      ≡ of_waiting n id ws
  came_here n t id [] [] = refl
  came_here n t id [] (a ∷ answers) = refl
  came_here n t id (w ∷ ws) [] = omega arith
  came_here n t id (w ∷ ws) (a ∷ answers) =
      let more = came_here n t id ws answers in
      let one = came_one n t id w a in
      let launched = launched_append n id (launch_by w a) (launches_of ws answers) in
      let arrived = arrived_append n t id (arrival_by t w a) (arrivals_of t ws answers) in
      omega (arith, more, one, launched, arrived)

  came_else : (n u t id : ℕ) (w : Waiting ℕ) (a : Answer V O R K) → u ≢ t → of_arrived n u id (arrival_by t w a) ≡ 0
  came_else n u t id w a ne = elim (told_or_plain a) [
    | inl (ticket, e) ↦ rw e refl
    | inr plain ↦
        let one = cond_none (w.after == n) (is_at u id t w.name.id) (at_other u t id w.name.id ne) in
        rw (arrival_plain t w a plain) (omega (arith, one))
  ]

  came_elsewhere : (n u t id : ℕ) (ws : List (Waiting ℕ)) (answers : List (Answer V O R K)) → u ≢ t → of_arrived n u id (arrivals_of t ws answers) ≡ 0
  came_elsewhere n u t id [] answers ne = refl
  came_elsewhere n u t id (w ∷ ws) [] ne = refl
  came_elsewhere n u t id (w ∷ ws) (a ∷ answers) ne =
      let more = came_elsewhere n u t id ws answers ne in
      let one = came_else n u t id w a ne in
      let arrived = arrived_append n u id (arrival_by t w a) (arrivals_of t ws answers) in
      omega (arith, more, one, arrived)

  -- a launch whose completion comes arrives
  out_one : (n t id : ℕ) (x : Completion V O R K) (ls : List (Unfinished ℕ)) → IsDistinct nat_eq (tickets_of ls)
      → of_launched n id (other_launches x.ticket ls) + of_arrived n t id (finish_of {V = V} {O = O} {T = K} t x.reply (launch_of x.ticket ls)) ≡ of_launched n id ls
  out_one n t id x [] once = refl
  out_one n t id x (l ∷ ls) once = elim (cases_eq l.ticket x.ticket) [
    | inl own ↦
        let rest = ap (of_launched n id) (drop_own x.ticket l ls own ∙ all_other x.ticket ls (others_differ x.ticket l ls once own)) in
        let found = ap (λ o. of_arrived n t id (finish_of {V = V} {O = O} {T = K} t x.reply o)) (find_own x.ticket l ls own) in
        let one : one_for n t id l.after t l.name.id ≡ cond (l.after == n) (cond (l.name.id == id) 1 0) 0 =
        ap (λ k. cond (l.after == n) k 0) (at_own t id l.name.id) in
        omega (arith, rest, found, one)
    | inr other ↦
        let rest = ap (of_launched n id) (keep_other x.ticket l ls other) in
        let found = ap (λ o. of_arrived n t id (finish_of {V = V} {O = O} {T = K} t x.reply o)) (find_other x.ticket l ls other) in
        let more = out_one n t id x ls (IsDistinct-tail nat_eq l.ticket (tickets_of ls) once) in
        omega (arith, rest, found, more)
  ]

  ended_here : (n t id : ℕ) (ls : List (Unfinished ℕ)) (xs : List (Completion V O R K)) → IsDistinct nat_eq (tickets_of ls)
      → IsDistinct nat_eq (ended_tickets xs)
      → of_launched n id (launches_left (ended_tickets xs) ls) + of_arrived n t id (finished_of t ls xs) ≡ of_launched n id ls
  ended_here n t id ls [] once ended = let none = ap (of_launched n id) (left_none ls) in omega (arith, none)
  ended_here n t id ls (x ∷ xs) once ended =
      let more =
      ended_here n t id (other_launches x.ticket ls) xs (others_distinct x.ticket ls once) (IsDistinct-tail nat_eq x.ticket (ended_tickets xs) ended) in
      let rest = ap (of_arrived n t id) (rest_finish t x.ticket ls xs (IsDistinct-head nat_eq x.ticket (ended_tickets xs) ended)) in
      let left = ap (of_launched n id) (left_more x.ticket (ended_tickets xs) ls) in
      let one = out_one n t id x ls once in
      let joined = arrived_append n t id (finished_by t ls x) (finished_of t ls xs) in
      omega (arith, more, rest, left, one, joined)

  ended_one : (n u t id : ℕ) (x : Completion V O R K) (o : Option (Unfinished ℕ)) → u ≢ t → of_arrived n u id (finish_of {V = V} {O = O} {T = K} t x.reply o) ≡ 0
  ended_one n u t id x None ne = refl
  ended_one n u t id x (Some l) ne =
      let one = cond_none (l.after == n) (is_at u id t l.name.id) (at_other u t id l.name.id ne) in omega (arith, one)

  ended_elsewhere : (n u t id : ℕ) (ls : List (Unfinished ℕ)) (xs : List (Completion V O R K)) → u ≢ t → of_arrived n u id (finished_of t ls xs) ≡ 0
  ended_elsewhere n u t id ls [] ne = refl
  ended_elsewhere n u t id ls (x ∷ xs) ne =
      let one = ended_one n u t id x (launch_of x.ticket ls) ne in
      let more = ended_elsewhere n u t id ls xs ne in
      let joined = arrived_append n u id (finished_by t ls x) (finished_of t ls xs) in
      omega (arith, one, more, joined)

module _ {V O R K D : Type 0} where
  -- how many wait at trustee t, for an answer or a completion
  abbrev waits_for : ℕ → ℕ → Option (Lane V ℕ D O R K) → ℕ
  waits_for n id lane = of_waiting n id (waiting_at lane) + of_launched n id (launched_at lane)

  same_waits : (n id : ℕ) (lane becomes : Lane V ℕ D O R K) → becomes.afters ≡ lane.afters → becomes.launched ≡ lane.launched
      → waits_for n id (Some becomes) ≡ waits_for n id (Some lane)
  same_waits n id lane becomes afters launched =
      let waits = ap (λ b. of_waiting n id b.items) afters in
      let launches = ap (λ b. of_launched n id b.items) launched in
      omega (arith, waits, launches)

  -- a lane whose continuations changed, at its own trustee
  lane_here : (n id : ℕ) (lanes : List (Lane V ℕ D O R K)) (t : ℕ) (lane becomes : Lane V ℕ D O R K) → slice_get lanes t ≡ Some lane
      → (waits_for n id (slice_get (slice_set lanes t becomes) t) ≡ of_waiting n id becomes.afters.items + of_launched n id becomes.launched.items)
      × (waits_for n id (slice_get lanes t) ≡ of_waiting n id lane.afters.items + of_launched n id lane.launched.items)
  lane_here n id lanes t lane becomes e = (ap (λ o. waits_for n id o) (set_here lanes t lane becomes e), ap (λ o. waits_for n id o) e)

  lane_elsewhere : (n id : ℕ) (lanes : List (Lane V ℕ D O R K)) (t u : ℕ) (becomes : Lane V ℕ D O R K) → u ≢ t
      → waits_for n id (slice_get (slice_set lanes t becomes) u) ≡ waits_for n id (slice_get lanes u)
  lane_elsewhere n id lanes t u becomes ne = ap (λ o. waits_for n id o) (set_other lanes t u becomes ne)

  -- one request more counts where one was accepted
  asked_here : (trustee : ℕ) (name : Name) (op : O) (n0 : ℕ) (old new : Books V ℕ D O R K) → HasAsked trustee (ApplyTo name op) n0 0 old new → (n id : ℕ)
      → counting_for n trustee id new ≡ counting_for n trustee id old + one_for n trustee id n0 trustee name.id
  asked_here trustee name op n0 old new h n id =
      let (now, was) = lane_here n id old.lanes.items trustee h.lane h.becomes h.of_lane in
      let moved : waits_for n id (slice_get new.lanes.items trustee) ≡ waits_for n id (slice_get (slice_set old.lanes.items trustee h.becomes) trustee) =
      ap (λ (l : List (Lane V ℕ D O R K)). waits_for n id (slice_get l trustee)) h.lanes in
      let w : Waiting ℕ = record { after = n0; name = name } in
      let grew : of_waiting n id h.becomes.afters.items ≡ of_waiting n id h.lane.afters.items + (cond (n0 == n) (cond (name.id == id) 1 0) 0 + 0) =
      ap (of_waiting n id) h.accepts.afters ∙ waiting_append n id h.lane.afters.items (w ∷ []) in
      let one : one_for n trustee id n0 trustee name.id ≡ cond (n0 == n) (cond (name.id == id) 1 0) 0 =
      ap (λ k. cond (n0 == n) k 0) (at_own trustee id name.id) in
      let arrived : of_arrived n trustee id new.arrived.items ≡ of_arrived n trustee id old.arrived.items =
      ap (λ a. of_arrived n trustee id a.items) h.rest.arrived in
      let still = ap (λ b. of_launched n id b.items) h.accepts.launched in
      omega (arith, now, was, moved, grew, one, arrived, still)

  asked_elsewhere : (trustee : ℕ) (name : Name) (op : O) (n0 : ℕ) (old new : Books V ℕ D O R K) → HasAsked trustee (ApplyTo name op) n0 0 old new
      → (n t id : ℕ) → t ≢ trustee → counting_for n t id new ≡ counting_for n t id old + one_for n t id n0 trustee name.id
  asked_elsewhere trustee name op n0 old new h n t id ne =
      let still = lane_elsewhere n id old.lanes.items trustee t h.becomes ne in
      let moved : waits_for n id (slice_get new.lanes.items t) ≡ waits_for n id (slice_get (slice_set old.lanes.items trustee h.becomes) t) =
      ap (λ (l : List (Lane V ℕ D O R K)). waits_for n id (slice_get l t)) h.lanes in
      let one = cond_none (n0 == n) (is_at t id trustee name.id) (at_other t trustee id name.id ne) in
      let arrived : of_arrived n t id new.arrived.items ≡ of_arrived n t id old.arrived.items = ap (λ a. of_arrived n t id a.items) h.rest.arrived in
      omega (arith, still, moved, one, arrived)

  asked_counts : (trustee : ℕ) (name : Name) (op : O) (n0 : ℕ) (old new : Books V ℕ D O R K) → HasAsked trustee (ApplyTo name op) n0 0 old new
      → (n t id : ℕ) → counting_for n t id new ≡ counting_for n t id old + one_for n t id n0 trustee name.id
  asked_counts trustee name op n0 old new h n t id =
      elim (cases_eq t trustee) [
        | inl e ↦ subst (λ u. counting_for n u id new ≡ counting_for n u id old + one_for n u id n0 trustee name.id) (sym e)
            (asked_here trustee name op n0 old new h n id)
        | inr ne ↦ asked_elsewhere trustee name op n0 old new h n t id ne
      ]

  -- one request less counts where an answer was taken
  taken_counts : (n0 : ℕ) (got : Got V O R K) (old new : Books V ℕ D O R K) (h : HasTaken n0 got old new) (n t id : ℕ)
      → counting_for n t id old ≡ counting_for n t id new + one_for n t id n0 h.t h.name.id
  taken_counts n0 got old new h n t id =
      let still = same_at_set (waits_for n id) old.lanes.items h.t t h.lane h.becomes h.of_lane (same_waits n id h.lane h.becomes h.counts.afters h.counts.launched) in
      let moved : waits_for n id (slice_get new.lanes.items t) ≡ waits_for n id (slice_get (slice_set old.lanes.items h.t h.becomes) t) =
      ap (λ (l : List (Lane V ℕ D O R K)). waits_for n id (slice_get l t)) h.lanes in
      let arrived : of_arrived n t id old.arrived.items ≡ one_for n t id n0 h.t h.name.id + of_arrived n t id new.arrived.items =
      ap (of_arrived n t id) h.first in
      omega (arith, still, moved, arrived)

  -- where neither the continuations that wait nor the arrivals changed, as many count
  still_counts : (t0 : ℕ) (lane becomes : Lane V ℕ D O R K) (old new : Books V ℕ D O R K) → slice_get old.lanes.items t0 ≡ Some lane
      → new.lanes.items ≡ slice_set old.lanes.items t0 becomes → becomes.afters ≡ lane.afters → becomes.launched ≡ lane.launched → new.arrived ≡ old.arrived
      → (n t id : ℕ) → counting_for n t id new ≡ counting_for n t id old
  still_counts t0 lane becomes old new of_lane lanes afters launched arrivals n t id =
      let still = same_at_set (waits_for n id) old.lanes.items t0 t lane becomes of_lane (same_waits n id lane becomes afters launched) in
      let moved : waits_for n id (slice_get new.lanes.items t) ≡ waits_for n id (slice_get (slice_set old.lanes.items t0 becomes) t) =
      ap (λ (l : List (Lane V ℕ D O R K)). waits_for n id (slice_get l t)) lanes in
      let arrived : of_arrived n t id new.arrived.items ≡ of_arrived n t id old.arrived.items = ap (λ a. of_arrived n t id a.items) arrivals in
      omega (arith, still, moved, arrived)

  -- answers that come move from what waits to what arrived, or to the launches, and completions from these
  got_here : (t0 : ℕ) (a : AnswerBatch V O R K) (lane becomes : Lane V ℕ D O R K) (old new : Books V ℕ D O R K)
      → slice_get old.lanes.items t0 ≡ Some lane
      → new.lanes.items ≡ slice_set old.lanes.items t0 becomes → becomes.afters.items ≡ drop (length a.answers.items) lane.afters.items
      → becomes.launched.items ≡ launches_left (ended_tickets a.completions.items) (with_told lane a)
      → new.arrived.items ≡ old.arrived.items ++ (arrivals_of t0 lane.afters.items a.answers.items ++ finished_of t0 (with_told lane a) a.completions.items)
      → IsDistinct nat_eq (tickets_of (with_told lane a)) → IsDistinct nat_eq (ended_tickets a.completions.items)
      → (n id : ℕ) → counting_for n t0 id new ≡ counting_for n t0 id old
  got_here t0 a lane becomes old new of_lane lanes afters launched arrivals once ended n id =
      let (now, was) = lane_here n id old.lanes.items t0 lane becomes of_lane in
      let moved : waits_for n id (slice_get new.lanes.items t0) ≡ waits_for n id (slice_get (slice_set old.lanes.items t0 becomes) t0) =
      ap (λ (l : List (Lane V ℕ D O R K)). waits_for n id (slice_get l t0)) lanes in
      let left : of_waiting n id becomes.afters.items ≡ of_waiting n id (drop (length a.answers.items) lane.afters.items) = ap (of_waiting n id) afters in
      let launches = ap (of_launched n id) launched in
      let told = launched_append n id lane.launched.items (launches_of lane.afters.items a.answers.items) in
      let came = came_here n t0 id lane.afters.items a.answers.items in
      let done = ended_here n t0 id (with_told lane a) a.completions.items once ended in
      let both = arrived_append n t0 id (arrivals_of t0 lane.afters.items a.answers.items) (finished_of t0 (with_told lane a) a.completions.items) in
      let arrived = ap (of_arrived n t0 id) arrivals
      ∙ arrived_append n t0 id old.arrived.items (arrivals_of t0 lane.afters.items a.answers.items ++ finished_of t0 (with_told lane a) a.completions.items) in
      omega (arith, now, was, moved, left, launches, told, came, done, both, arrived)

  got_elsewhere : (t0 : ℕ) (a : AnswerBatch V O R K) (lane becomes : Lane V ℕ D O R K) (old new : Books V ℕ D O R K)
      → new.lanes.items ≡ slice_set old.lanes.items t0 becomes
      → new.arrived.items ≡ old.arrived.items ++ (arrivals_of t0 lane.afters.items a.answers.items ++ finished_of t0 (with_told lane a) a.completions.items)
      → (n t id : ℕ) → t ≢ t0 → counting_for n t id new ≡ counting_for n t id old
  got_elsewhere t0 a lane becomes old new lanes arrivals n t id ne =
      let still = lane_elsewhere n id old.lanes.items t0 t becomes ne in
      let moved : waits_for n id (slice_get new.lanes.items t) ≡ waits_for n id (slice_get (slice_set old.lanes.items t0 becomes) t) =
      ap (λ (l : List (Lane V ℕ D O R K)). waits_for n id (slice_get l t)) lanes in
      let none = came_elsewhere n t t0 id lane.afters.items a.answers.items ne in
      let nothing = ended_elsewhere n t t0 id (with_told lane a) a.completions.items ne in
      let both = arrived_append n t id (arrivals_of t0 lane.afters.items a.answers.items) (finished_of t0 (with_told lane a) a.completions.items) in
      let arrived = ap (of_arrived n t id) arrivals
      ∙ arrived_append n t id old.arrived.items (arrivals_of t0 lane.afters.items a.answers.items ++ finished_of t0 (with_told lane a) a.completions.items) in
      omega (arith, still, moved, none, nothing, both, arrived)

module _ {V O R K D Table Owner : Type 0} (theory : Theory V O R K Table D Owner) (kind : Kind V O R K) where
  turned_counts : (t0 : ℕ) (turn : Turn) (table becomes : Table) (old new : Books V ℕ D O R K) → HasTurned theory kind t0 turn table becomes old new
      → (n t id : ℕ) → counting_for n t id new ≡ counting_for n t id old
  turned_counts t0 (Sent m) table becomes old new h n t id =
      let sent = h.tells in still_counts t0 h.lane h.becomes old new h.turns.of_lane h.turns.lanes sent.afters sent.launched sent.arrived n t id
  turned_counts t0 Pending table becomes old new h n t id =
      let looked = h.tells in
      still_counts t0 h.lane h.becomes old new h.turns.of_lane h.turns.lanes (ap (λ (l : Lane V ℕ D O R K). l.afters) looked.stays)
      (ap (λ (l : Lane V ℕ D O R K). l.launched) looked.stays)
      (ap (λ (b : Books V ℕ D O R K). b.arrived) looked.rest) n t id
  turned_counts t0 (GotSome m) table becomes old new h n t id =
      let got = h.tells in
      elim (cases_eq t t0) [
        | inl e ↦ subst (λ u. counting_for n u id new ≡ counting_for n u id old) (sym e)
            (got_here t0 got.answers h.lane h.becomes old new h.turns.of_lane h.turns.lanes got.afters got.launched got.arrived got.once got.ended n id)
        | inr ne ↦ got_elsewhere t0 got.answers h.lane h.becomes old new h.turns.lanes got.arrived n t id ne
      ]
  turned_counts t0 Idle table becomes old new h n t id =
      let nothing = h.tells in ap (λ (b : Books V ℕ D O R K). counting_for n t id b) nothing.kept

-- an object that is there once is that one
same_object : (t id u named : ℕ) → 1 ≤ is_at t id u named → (u ≡ t) × (named ≡ id)
same_object t id u named some =
    elim (cases_eq u t) [
      | inl e ↦ elim (cases_eq named id) [
        | inl f ↦ (e, f)
        | inr ne ↦ let zero_is : cond (named == id) 1 0 ≡ 0 = ap (λ b. cond b 1 0) (ne_eqb named id ne) in
            let zero : is_at t id u named ≡ 0 = cond_none (u == t) (cond (named == id) 1 0) zero_is in
            absurd (omega (arith, some, zero))
      ]
      | inr ne ↦ let zero = at_other t u id named (λ e. ne (sym e)) in absurd (omega (arith, some, zero))
    ]

one_own : (n t id : ℕ) → one_for n t id n t id ≡ 1
one_own n t id =
    ap (λ b. cond b (is_at t id t id) 0) (eq-eqb n n refl) ∙ at_own t id id ∙ ap (λ b. cond b 1 0) (eq-eqb id id refl)

one_other : (n t id m u named : ℕ) → n ≢ m → one_for n t id m u named ≡ 0
one_other n t id m u named ne = ap (λ b. cond b (is_at t id u named) 0) (ne_eqb m n (λ e. ne (sym e)))

is_of_one : (o : Option Trust) (t id : ℕ) → 1 ≤ is_of t id o → (u named : ℕ) → is_of u named o ≡ is_at u named t id
is_of_one None t id some u named = absurd (omega (arith, some))
is_of_one (Some trust) t id some u named =
    let (e, f) = same_object t id trust.trustee trust.name.id some in
    ap (λ k. is_at u named k trust.name.id) e ∙ ap (λ k. is_at u named t k) f

module _ {V T U O R K : Type 0} (trusts : List Trust) where
  pub awaits_push : (task : T) (stages : List (Stage V T U O R K)) (n t id : ℕ)
      → awaits trusts t id (slice_get (stages ++ Fresh task ∷ []) n) ≡ awaits trusts t id (slice_get stages n)
  awaits_push task [] zero t id = refl
  awaits_push task [] (suc n) t id = refl
  awaits_push task (s ∷ stages) zero t id = refl
  awaits_push task (s ∷ stages) (suc n) t id = awaits_push task stages n t id

  cond_awaits : (b : Bool) (x y : Stage V T U O R K) (t id : ℕ) → awaits trusts t id (Some x) ≡ 0 → awaits trusts t id (Some y) ≡ 0
      → awaits trusts t id (Some (cond b x y)) ≡ 0
  cond_awaits true x y t id first last = first
  cond_awaits false x y t id first last = last

  -- a task that made a move waits for nothing yet
  moved_awaits : (count : ℕ) (move : Move V T U O R K) (t id : ℕ) → awaits trusts t id (Some (stage_of count move)) ≡ 0
  moved_awaits count (Apply i op task) t id = cond_awaits (nat_lt i count) (Asks i op task) (Ended None) t id refl refl
  moved_awaits count (Done out) t id = refl

  awaits_some : (t id : ℕ) (o : Option (Stage V T U O R K)) → 1 ≤ awaits trusts t id o
      → (i : ℕ) × (task : T) × (o ≡ Some (Waits i task)) × (1 ≤ is_of t id (slice_get trusts i))
  awaits_some t id None some = absurd (omega (arith, some))
  awaits_some t id (Some (Fresh task)) some = absurd (omega (arith, some))
  awaits_some t id (Some (Asks i op task)) some = absurd (omega (arith, some))
  awaits_some t id (Some (Waits i task)) some = (i, task, refl, some)
  awaits_some t id (Some (Ended out)) some = absurd (omega (arith, some))

  module _ {D : Type 0} where
    -- the answer that is taken is one for which its task waits, of the object that it asked
    pub taken_awaits : (n : ℕ) (got : Got V O R K) (stages : List (Stage V T U O R K)) (old new : Books V ℕ D O R K) → AreTheirs trusts stages old
        → (h : HasTaken n got old new)
        → (i : ℕ) × (task : T) × (slice_get stages n ≡ Some (Waits i task)) × (1 ≤ is_of h.t h.name.id (slice_get trusts i))
    taken_awaits n got stages old new theirs h =
        let less = taken_counts n got old new h n h.t h.name.id in
        let one = one_own n h.t h.name.id in
        let count = theirs n h.t h.name.id in
        awaits_some h.t h.name.id (slice_get stages n) (omega (arith, less, one, count))

    resumed_here : (n : ℕ) (got : Got V O R K) (stages : List (Stage V T U O R K)) (old new : Books V ℕ D O R K) → AreTheirs trusts stages old
        → HasTaken n got old new → (t id : ℕ) → counting_for n t id new ≡ 0
    resumed_here n got stages old new theirs h t id =
        let (i, task, at, some) = taken_awaits n got stages old new theirs h in
        let less = taken_counts n got old new h n t id in
        let count = theirs n t id in
        let is : awaits trusts t id (slice_get stages n) ≡ is_of t id (slice_get trusts i) = ap (awaits trusts t id) at in
        let one = is_of_one (slice_get trusts i) h.t h.name.id some t id in
        let own : one_for n t id n h.t h.name.id ≡ is_at t id h.t h.name.id = ap (λ b. cond b (is_at t id h.t h.name.id) 0) (eq-eqb n n refl) in
        omega (arith, less, count, is, one, own)

module _ {V T U O R K D Table Owner : Type 0} (theory : Theory V O R K Table D Owner) (kind : Kind V O R K) (rules : Rules V T U O R K)
    (trusts : List Trust) where
  theirs_started : (n0 : ℕ) (move : Move V T U O R K) (old new : List (Stage V T U O R K)) → IsStarted rules (length trusts) n0 move old new
      → (n t id : ℕ) → awaits trusts t id (slice_get new n) ≡ awaits trusts t id (slice_get old n)
  theirs_started n0 move old new h n t id =
      ap (λ l. awaits trusts t id (slice_get l n)) h.now
      ∙ same_at_set (awaits trusts t id) old n0 n (Fresh h.task) (stage_of (length trusts) move) h.was (moved_awaits trusts (length trusts) move t id)

  theirs_asked : (n0 i : ℕ) (op : O) (trust : Trust) (old new : List (Stage V T U O R K)) → IsAsked n0 i op old new → slice_get trusts i ≡ Some trust
      → (n t id : ℕ)
      → awaits trusts t id (slice_get new n) ≡ awaits trusts t id (slice_get old n) + one_for n t id n0 trust.trustee trust.name.id
  theirs_asked n0 i op trust old new h of n t id =
      let now = ap (λ l. awaits trusts t id (slice_get l n)) h.now in
      elim (cases_eq n n0) [
        | inl e ↦
            let at : slice_get (slice_set old n0 (Waits i h.task)) n ≡ Some (Waits i h.task) =
            ap (λ k. slice_get (slice_set old n0 (Waits i h.task)) k) e ∙ set_here old n0 (Asks i op h.task) (Waits i h.task) h.was in
            let is = ap (awaits trusts t id) at in
            let there = ap (is_of t id) of in
            let was : awaits trusts t id (slice_get old n) ≡ 0 = ap (λ k. awaits trusts t id (slice_get old k)) e ∙ ap (awaits trusts t id) h.was in
            let own : one_for n t id n0 trust.trustee trust.name.id ≡ is_at t id trust.trustee trust.name.id =
            ap (λ b. cond b (is_at t id trust.trustee trust.name.id) 0) (eq-eqb n0 n (sym e)) in
            omega (arith, now, is, there, was, own)
        | inr ne ↦
            let at : awaits trusts t id (slice_get (slice_set old n0 (Waits i h.task)) n) ≡ awaits trusts t id (slice_get old n) =
            ap (awaits trusts t id) (set_other old n0 n (Waits i h.task) ne) in
            let none = one_other n t id n0 trust.trustee trust.name.id ne in
            omega (arith, now, at, none)
      ]

  theirs_deed : (d : Deed V T U O R K) (was now : World V T U O R K D Table) → Does theory kind rules trusts d was now
      → AreTheirs trusts was.stages was.books → AreTheirs trusts now.stages now.books
  theirs_deed (Added task) was now h theirs n t id =
      let books = ap (λ (b : Books V ℕ D O R K). counting_for n t id b) h.calls.books in
      let count = theirs n t id in
      let stages = ap (λ l. awaits trusts t id (slice_get l n)) h.steps in
      let same = awaits_push trusts task was.stages n t id in
      omega (arith, books, count, stages, same)
  theirs_deed (Started n0 move) was now h theirs n t id =
      let books = ap (λ (b : Books V ℕ D O R K). counting_for n t id b) h.calls.books in
      let count = theirs n t id in
      let same = theirs_started n0 move was.stages now.stages h.steps n t id in
      omega (arith, books, count, same)
  theirs_deed (Asked n0 i op) was now h theirs n t id =
      let calls = h.calls in
      let counts = asked_counts calls.trust.trustee calls.trust.name op n0 was.books now.books calls.asked n t id in
      let count = theirs n t id in
      let more = theirs_asked n0 i op calls.trust was.stages now.stages h.steps calls.of_trust n t id in
      omega (arith, counts, count, more)
  theirs_deed (Resumed n0 got move) was now h theirs n t id =
      let taken = h.calls.taken in
      let steps = h.steps in
      let now_is = ap (λ l. awaits trusts t id (slice_get l n)) steps.now in
      elim (cases_eq n n0) [
        | inl e ↦
            let at : slice_get (slice_set was.stages n0 (stage_of (length trusts) move)) n ≡ Some (stage_of (length trusts) move) =
            ap (λ k. slice_get (slice_set was.stages n0 (stage_of (length trusts) move)) k) e
            ∙ set_here was.stages n0 (Waits steps.trust steps.task) (stage_of (length trusts) move) steps.was in
            let is = ap (awaits trusts t id) at in
            let none = moved_awaits trusts (length trusts) move t id in
            let gone = resumed_here trusts n0 got was.stages was.books now.books theirs taken t id in
            let same = ap (λ k. counting_for k t id now.books) e in
            omega (arith, now_is, is, none, gone, same)
        | inr ne ↦
            let at : awaits trusts t id (slice_get (slice_set was.stages n0 (stage_of (length trusts) move)) n)
            ≡ awaits trusts t id (slice_get was.stages n) =
            ap (awaits trusts t id) (set_other was.stages n0 n (stage_of (length trusts) move) ne) in
            let less = taken_counts n0 got was.books now.books taken n t id in
            let none = one_other n t id n0 taken.t taken.name.id ne in
            let count = theirs n t id in
            omega (arith, now_is, at, less, none, count)
      ]
  theirs_deed (Turned t0 turn) was now h theirs n t id =
      let calls = h.calls in
      let counts = turned_counts theory kind t0 turn calls.table calls.becomes was.books now.books calls.turned n t id in
      let count = theirs n t id in
      let stages = ap (λ l. awaits trusts t id (slice_get l n)) h.steps in
      omega (arith, counts, count, stages)

  -- whatever is done, each request that counts is of these tasks
  pub theirs_then : (deeds : List (Deed V T U O R K)) (was now : World V T U O R K D Table) → Runs theory kind rules trusts deeds was now
      → AreTheirs trusts was.stages was.books → AreTheirs trusts now.stages now.books
  theirs_then deeds was now runs theirs =
      runs_keep theory kind rules trusts (λ w. AreTheirs trusts w.stages w.books) (λ d x y does is. theirs_deed d x y does is) deeds was now runs theirs
