-- The trustees at which a request counts.
use Rattle.std.proofs.Common.{◌≡◌, ◌≢◌, ℕ, zero, suc, ◌+◌, ◌≤◌, ◌<◌, ◌⊎◌, inl, inr, Bool, true, false, cond, List, [], ◌∷◌, ◌++◌, length, filter, map, refl, sym, ◌∙◌, ap, arith, eq-eqb, ne_eqb}
use Rattle.std.specs.Prelude.{◌==◌, slice_get, slice_set, IsSomeAnd}
use Rattle.std.specs.declared.option.Option.{Option}
use Rattle.std.specs.declared.option.Option.TheVariants.{None, Some}
use Rattle.std.proofs.lemmas.Bool.{cases_eq}
use Rattle.std.proofs.lemmas.List.{length-map}
use Rattle.std.proofs.lemmas.List.Sums.{length-filter}
use Rattle.std.proofs.lemmas.Option.{slice_get_within}
use Rattle.tm_seq.specs.Kind.{Kind}
use Rattle.tm_model.specs.State.{State}
use Rattle.tm_model.specs.Holds.{has_bye}
use Rattle.tm_pair.specs.Theory.{Theory}
use Rattle.tm_pair.specs.Views.{ClientView}
use Rattle.tm_client.specs.declared.answers.Turn.{Turn}
use Rattle.tm_client.specs.declared.answers.Turn.TheVariants.{Sent, Pending, Got, Idle}
use Rattle.tm_client.specs.declared.books.Books.{Books}
use Rattle.tm_client.specs.declared.lane.Lane.{Lane}
use Rattle.tm_client.specs.declared.lane.Unfinished.{Unfinished}
use Rattle.tm_client.specs.declared.lane.Waiting.{Waiting}
use Rattle.tm_client.specs.declared.trust.Trust.{Trust}
use Rattle.tm_client.specs.Clients.{IsClient, come_of}
use Rattle.tm_client.specs.Lanes.{unanswered, names_of, name_of, out_requests, asks_in}
use Rattle.tm_client.specs.Turns.{HasTurned}
use Rattle.tm_client.proofs.Elements.{element_at}
use Rattle.tm_client.proofs.Listed.{at_own}
use Rattle.tm_task.specs.declared.stage.Stage.{Stage}
use Rattle.tm_task.specs.declared.stage.Stage.TheVariants.{Fresh, Asks, Waits, Ended}
use Rattle.tm_task.specs.Going.{IsInRange, AreInRange, has_gone}
use Rattle.tm_task.specs.Ours.{of_waiting, of_launched, of_arrived, waiting_at, launched_at, is_of, awaits, AreTheirs}
use Rattle.tm_task.specs.Progressing.{IsSettled, count_of, counting_at, busy_at, busy_below}
use Rattle.tm_task.specs.Stages.{is_ended, ended_in}
use Rattle.tm_task.proofs.Places.{same_at_set, empty_parts}

some_launched : (n id : ℕ) (ls : List (Unfinished ℕ)) → 1 ≤ of_launched n id ls → 1 ≤ length ls
some_launched n id [] some = absurd (omega (arith, some))
some_launched n id (l ∷ ls) some = omega arith

some_waits : (n id : ℕ) (ws : List (Waiting ℕ)) → 1 ≤ of_waiting n id ws → 1 ≤ length ws
some_waits n id [] some = absurd (omega (arith, some))
some_waits n id (w ∷ ws) some = omega arith

truth : (b : Bool) → (b ≡ true) ⊎ (b ≡ false)
truth true = inl refl
truth false = inr refl

none_or_some : {X : Type 0} (xs : List X) → (xs ≡ []) ⊎ (xs ≢ [])
none_or_some [] = inl refl
none_or_some (x ∷ xs) = inr (λ e. absurd cc)

module _ {V O R K D : Type 0} where
  pub same_busy_at : (old new : Books V ℕ D O R K) → ((t : ℕ) → counting_at new t ≡ counting_at old t) → (t : ℕ) → busy_at new t ≡ busy_at old t
  same_busy_at old new same t = ap (λ n. cond (n == 0) [] (t ∷ [])) (same t)

  -- where as many count, the same trustees are busy
  pub same_busy : (old new : Books V ℕ D O R K) → ((t : ℕ) → counting_at new t ≡ counting_at old t) → (n : ℕ) → busy_below new n ≡ busy_below old n
  same_busy old new same zero = refl
  same_busy old new same (suc n) =
      ap (λ xs. xs ++ busy_at new n) (same_busy old new same n) ∙ ap (λ xs. busy_below old n ++ xs) (same_busy_at old new same n)

  pub busy_one : (books : Books V ℕ D O R K) (t : ℕ) → 1 ≤ counting_at books t → busy_at books t ≡ t ∷ []
  busy_one books t some =
      ap (λ b. cond b [] (t ∷ [])) (ne_eqb (counting_at books t) 0 (λ e. absurd (omega (arith, e, some))))

  pub busy_some : (books : Books V ℕ D O R K) (t n : ℕ) → 1 ≤ counting_at books t → t < n → busy_below books n ≢ []
  busy_some books t zero some lt e = absurd (omega (arith, lt))
  busy_some books t (suc n) some lt e =
      let (first, last) = empty_parts (busy_below books n) (busy_at books n) e in
      elim (cases_eq t n) [
        | inl same ↦ let one = busy_one books t some in
            let clash : t ∷ [] ≡ [] = sym one ∙ ap (busy_at books) same ∙ last in absurd cc
        | inr ne ↦ busy_some books t n some (omega (arith, lt, ne)) first
      ]

  some_lane : (o : Option (Lane V ℕ D O R K)) → 1 ≤ count_of o → (lane : Lane V ℕ D O R K) × (o ≡ Some lane)
  some_lane None some = absurd (omega (arith, some))
  some_lane (Some lane) some = (lane, refl)

  -- a trustee at which a request counts is one of the client's
  pub counting_within : (books : Books V ℕ D O R K) (t : ℕ) → 1 ≤ counting_at books t → t < length books.lanes.items
  counting_within books t some =
      let (lane, e) = some_lane (slice_get books.lanes.items t) some in slice_get_within books.lanes.items t lane e

  count_is : (o : Option (Lane V ℕ D O R K)) (count : ℕ) → IsSomeAnd o (λ lane. count ≡ lane.counting) → count_of o ≡ count
  count_is None count h = absurd h
  count_is (Some lane) count h = sym h

  -- how many count at a trustee, as a client tells it
  pub counting_is : (books : Books V ℕ D O R K) (t count : ℕ) → IsSomeAnd (slice_get books.lanes.items t) (λ lane. count ≡ lane.counting)
      → counting_at books t ≡ count
  counting_is books t count h = count_is (slice_get books.lanes.items t) count h

  pub idle_at : (books : Books V ℕ D O R K) (t count : ℕ) → IsSomeAnd (slice_get books.lanes.items t) (λ lane. count ≡ lane.counting) → count ≡ 0
      → busy_at books t ≡ []
  idle_at books t count h zero_is =
      let none : counting_at books t ≡ 0 = counting_is books t count h ∙ zero_is in ap (λ n. cond (n == 0) [] (t ∷ [])) none

  waiting_lane : (n id : ℕ) (o : Option (Lane V ℕ D O R K)) → 1 ≤ of_waiting n id (waiting_at o) + of_launched n id (launched_at o)
      → (lane : Lane V ℕ D O R K) × (o ≡ Some lane) × (1 ≤ length lane.afters.items + length lane.launched.items)
  waiting_lane n id None some = absurd (omega (arith, some))
  waiting_lane n id (Some lane) some = (
    lane,
    refl,
    elim (cases_eq (of_waiting n id lane.afters.items) 0) [
      | inl none ↦ let many = some_launched n id lane.launched.items (omega (arith, some, none)) in omega (arith, many)
      | inr ne ↦ let many = some_waits n id lane.afters.items (omega (arith, ne)) in omega (arith, many)
    ],
  )

  module _ (view : D → ClientView V O R K) (openings : ℕ → State V O R K) (books : Books V ℕ D O R K) (is : IsClient view openings books) where
    -- where a continuation waits its request counts
    waiting_counts : (n t id : ℕ)
        → 1 ≤ of_waiting n id (waiting_at (slice_get books.lanes.items t)) + of_launched n id (launched_at (slice_get books.lanes.items t))
        → 1 ≤ counting_at books t
    waiting_counts n t id some =
        let (lane, e, many) = waiting_lane n id (slice_get books.lanes.items t) some in
        let one = is.lanes t lane e in
        let names : length (names_of lane.afters.items) ≡ length (map name_of (unanswered view lane)) = ap length one.names in
        let afters : length (names_of lane.afters.items) ≡ length lane.afters.items = length-map lane.afters.items (λ w. w.name) in
        let asks : length (map name_of (unanswered view lane)) ≡ length (unanswered view lane) = length-map (unanswered view lane) name_of in
        let here : counting_at books t ≡ lane.counting = ap count_of e in
        let counts = one.counting in
        omega (arith, many, names, afters, asks, here, counts)

    -- where nothing is out or waits, no launch lacks its completion, and nothing came, nothing counts
    nothing_counts : (t : ℕ) (lane : Lane V ℕ D O R K) → slice_get books.lanes.items t ≡ Some lane → (view lane.side).out ≡ None → lane.waits.items ≡ []
        → lane.launched.items ≡ [] → books.arrived.items ≡ [] → counting_at books t ≡ 0
    nothing_counts t lane e out waits launched arrived =
        let one = is.lanes t lane e in
        let none : unanswered view lane ≡ [] = ap (λ o. asks_in (out_requests o) ++ lane.waits.items) out ∙ waits in
        let asks : length (unanswered view lane) ≡ 0 = ap length none in
        let launches = ap length launched in
        let came : come_of t books.arrived.items ≡ 0 = ap (come_of t) arrived in
        let here : counting_at books t ≡ lane.counting = ap count_of e in
        let counts = one.counting in
        omega (arith, asks, launches, came, here, counts)

    -- where a request counts, no Bye was sent
    no_bye : (t : ℕ) (lane : Lane V ℕ D O R K) → slice_get books.lanes.items t ≡ Some lane → 1 ≤ counting_at books t → has_bye (view lane.side).sent ≡ false
    no_bye t lane e some =
        let one = is.lanes t lane e in
        let here : counting_at books t ≡ lane.counting = ap count_of e in
        elim (truth (has_bye (view lane.side).sent)) [
          | inl bye ↦ let none = (one.last (one.said ∙ bye)).1 in absurd (omega (arith, some, here, none))
          | inr none ↦ none
        ]

module _ {V O R K D Table Owner : Type 0} (theory : Theory V O R K Table D Owner) (kind : Kind V O R K) where
  counting_set : (t0 : ℕ) (lane becomes : Lane V ℕ D O R K) (old new : Books V ℕ D O R K) → slice_get old.lanes.items t0 ≡ Some lane
      → new.lanes.items ≡ slice_set old.lanes.items t0 becomes → becomes.counting ≡ lane.counting → (t : ℕ) → counting_at new t ≡ counting_at old t
  counting_set t0 lane becomes old new of_lane lanes same t =
      ap (λ (l : List (Lane V ℕ D O R K)). count_of (slice_get l t)) lanes ∙ same_at_set count_of old.lanes.items t0 t lane becomes of_lane same

  -- a turn of the client leaves what counts
  pub turned_counting : (t0 : ℕ) (turn : Turn) (was now : Table) (old new : Books V ℕ D O R K) → HasTurned theory kind t0 turn was now old new
      → (t : ℕ) → counting_at new t ≡ counting_at old t
  turned_counting t0 (Sent m) was now old new h t =
      let sent = h.tells in counting_set t0 h.lane h.becomes old new h.turns.of_lane h.turns.lanes sent.counting t
  turned_counting t0 Pending was now old new h t =
      let looked = h.tells in
      counting_set t0 h.lane h.becomes old new h.turns.of_lane h.turns.lanes (ap (λ (l : Lane V ℕ D O R K). l.counting) looked.stays) t
  turned_counting t0 (Got m) was now old new h t =
      let got = h.tells in counting_set t0 h.lane h.becomes old new h.turns.of_lane h.turns.lanes got.counting t
  turned_counting t0 Idle was now old new h t = let nothing = h.tells in ap (λ b. counting_at b t) nothing.kept

  -- a turn that neither sent a batch nor got answers, where a request counts and nothing came, was pending
  pub turned_pending : (openings : ℕ → State V O R K) (t0 : ℕ) (turn : Turn) (was now : Table) (old new : Books V ℕ D O R K)
      → IsClient theory.client_view openings old → HasTurned theory kind t0 turn was now old new → has_gone turn ≡ false → old.arrived.items ≡ []
      → 1 ≤ counting_at old t0 → (turn ≡ Pending) × (new.arrived.items ≡ [])
  turned_pending openings t0 (Sent m) was now old new is h none empty some = absurd cc
  turned_pending openings t0 (Got m) was now old new is h none empty some = absurd cc
  turned_pending openings t0 Pending was now old new is h none empty some =
      let looked = h.tells in (refl, ap (λ (b : Books V ℕ D O R K). b.arrived.items) looked.rest ∙ empty)
  turned_pending openings t0 Idle was now old new is h none empty some =
      let nothing = h.tells in
      let here : counting_at old t0 ≡ h.lane.counting = ap count_of h.turns.of_lane in
      elim (none_or_some h.lane.launched.items) [
        | inl launched ↦
            let zero = nothing_counts theory.client_view openings old is t0 h.lane h.turns.of_lane nothing.free nothing.waits launched empty in
            absurd (omega (arith, zero, some))
        | inr ne ↦
            absurd (nothing.no_fetch (
              nothing.waits,
              λ bye. let zero = bye.3 in absurd (omega (arith, zero, here, some)),
              no_bye theory.client_view openings old is t0 h.lane h.turns.of_lane some,
              inr ne,
            ))
      ]

module _ {V T U O R K : Type 0} where
  -- where not all have ended there is one that has not
  some_left : (stages : List (Stage V T U O R K)) → ended_in stages ≢ length stages
      → (n : ℕ) × (stage : Stage V T U O R K) × (slice_get stages n ≡ Some stage) × (is_ended stage ≡ false)
  some_left [] ne = absurd (ne refl)
  some_left (Fresh task ∷ stages) ne = (0, Fresh task, refl, refl)
  some_left (Asks i op task ∷ stages) ne = (0, Asks i op task, refl, refl)
  some_left (Waits i task ∷ stages) ne = (0, Waits i task, refl, refl)
  some_left (Ended out ∷ stages) ne =
      let all = length-filter is_ended (Ended out ∷ stages) in
      let rest = length-filter is_ended stages in
      let more : length (filter is_ended (Ended out ∷ stages)) ≡ length (filter is_ended stages) + 1 = omega arith in
      let (n, stage, e, left) = some_left stages (λ same. ne (omega (arith, same, all, rest, more))) in (suc n, stage, e, left)

  module _ {D : Type 0} (view : D → ClientView V O R K) (openings : ℕ → State V O R K) (books : Books V ℕ D O R K) (trusts : List Trust)
      (stages : List (Stage V T U O R K)) (is : IsClient view openings books) (theirs : AreTheirs trusts stages books) (empty : books.arrived.items ≡ []) where
    waits_counts : (n i : ℕ) (task : T) → slice_get stages n ≡ Some (Waits i task) → i < length trusts → (t : ℕ) × (1 ≤ counting_at books t)
    waits_counts n i task at lt =
        let (trust, there) = element_at trusts i lt in
        let t = trust.trustee in
        let id = trust.name.id in
        let count = theirs n trust.trustee trust.name.id in
        let waits : awaits trusts trust.trustee trust.name.id (slice_get stages n) ≡ is_of trust.trustee trust.name.id (slice_get trusts i) =
        ap (awaits trusts trust.trustee trust.name.id) at in
        let of = ap (is_of trust.trustee trust.name.id) there in
        let own = at_own trust.trustee trust.name.id trust.name.id in
        let unit : Bool → ℕ = λ b. cond b 1 0 in
        let one : unit (trust.name.id == trust.name.id) ≡ 1 = ap unit (eq-eqb trust.name.id trust.name.id refl) in
        let none : of_arrived n trust.trustee trust.name.id books.arrived.items ≡ 0 = ap (of_arrived n trust.trustee trust.name.id) empty in
        (trust.trustee, waiting_counts view openings books is n trust.trustee trust.name.id (omega (arith, count, waits, of, own, one, none)))

    one_counts : (n : ℕ) (stage : Stage V T U O R K) → slice_get stages n ≡ Some stage → is_ended stage ≡ false → IsInRange (length trusts) stage
        → IsSettled books trusts stage → (t : ℕ) × (1 ≤ counting_at books t)
    one_counts n (Fresh task) at left range settled = absurd settled
    one_counts n (Asks i op task) at left range settled = let full = settled.2 in (settled.0.trustee, omega (arith, full))
    one_counts n (Waits i task) at left range settled = waits_counts n i task at range
    one_counts n (Ended out) at left range settled = absurd cc

    -- where not all have ended, a request counts at some trustee
    pub some_counts : AreInRange (length trusts) stages
        → ((k : ℕ) (stage : Stage V T U O R K) → slice_get stages k ≡ Some stage → IsSettled books trusts stage) → ended_in stages ≢ length stages
        → (t : ℕ) × (1 ≤ counting_at books t)
    some_counts range settled ne =
        let (n, stage, at, left) = some_left stages ne in one_counts n stage at left (range n stage at) (settled n stage at)
