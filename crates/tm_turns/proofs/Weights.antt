-- What clients have still to do, as numbers, and how a client's turn lessens them.
use Rattle.std.proofs.Common.{◌≡◌, ◌≢◌, ℕ, ◌+◌, ◌*◌, ◌-◌, ◌≤◌, ◌⊎◌, inl, inr, true, false, cond, List, [], ◌∷◌, ◌++◌, length, length-append, take, drop, refl, sym, ◌∙◌, ap, subst, arith}
use Rattle.std.specs.Prelude.{slice_get, slice_set}
use Rattle.std.specs.declared.option.Option.{Option}
use Rattle.std.specs.declared.option.Option.TheVariants.{None, Some}
use Rattle.std.proofs.lemmas.Bool.{cases_eq}
use Rattle.std.proofs.lemmas.List.{take-append-drop}
use Rattle.std.proofs.lemmas.Option.{slice_get_within}
use Rattle.tm_seq.specs.Kind.{Kind}
use Rattle.tm_batch.specs.declared.limits.TheConstants.{MOST_REQUESTS}
use Rattle.tm_batch.specs.declared.message.Request.{Request}
use Rattle.tm_model.specs.Good.{FullCore}
use Rattle.tm_model.specs.Slots.{slot_of, publish}
use Rattle.tm_model.specs.Holds.{has_bye, launches_in, ended_in}
use Rattle.tm_core.proofs.Tallies.{bye_more, bye_at, launches_in-append, ended_in-append}
use Rattle.tm_pair.specs.Views.{BatchView, ClientView}
use Rattle.tm_pair.specs.Calls.{Publishes}
use Rattle.tm_pair.specs.Plain.{core_at, client_at, IsClientOf, plain_theory}
use Rattle.tm_pair.specs.declared.plain.PlainTable.{PlainTable}
use Rattle.tm_pair.specs.declared.plain.PlainClient.{PlainClient}
use Rattle.tm_trustee.proofs.Elements.{same_element, set_here}
use Rattle.tm_client.specs.Turns.{HasTurned, HasGot, HasLooked, HasSent, HasNothing, IsDue, IsFetchDue}
use Rattle.tm_client.specs.declared.answers.Turn.{Turn}
use Rattle.tm_client.specs.declared.answers.Turn.TheVariants.{Sent, Pending, Got, Idle}
use Rattle.tm_client.specs.declared.books.Books.{Books}
use Rattle.tm_turns.specs.Whole.{OneLane}
use Rattle.tm_turns.proofs.Ones.{one_of, bool_cases}
use Rattle.tm_turns.proofs.Light.{nought_some, pending, batch_weight, batch_weight_most, light_batch, out_of, out_weight, work_of, work_of-append, core_weight, publish_weighs, collect_weighs}

module _ {V O R T : Type 0} where
  -- one where a side has said no Bye
  abbrev pub unsaid : List (Request V O R T) → ℕ
  unsaid sent = cond (has_bye sent) 0 1

  pub unsaid_more : (sent b : List (Request V O R T)) → unsaid (sent ++ b) ≤ unsaid sent
  unsaid_more sent b =
      elim (bool_cases (has_bye sent)) [
        | inl said ↦ let e : unsaid (sent ++ b) ≡ 0 = ap (λ x. cond x 0 1) (bye_more sent b said) in omega (arith, e)
        | inr not ↦
            let e : unsaid sent ≡ 1 = ap (λ x. cond x 0 1) not in
            elim (bool_cases (has_bye (sent ++ b))) [
              | inl said ↦ let f : unsaid (sent ++ b) ≡ 0 = ap (λ x. cond x 0 1) said in omega (arith, e, f)
              | inr more ↦ let f : unsaid (sent ++ b) ≡ 1 = ap (λ x. cond x 0 1) more in omega (arith, e, f)
            ]
      ]

  -- a side that so much was sent by and so much came to
  abbrev pub pending_at : ClientView V O R T → ℕ
  pending_at view = pending view.sent view.got

  module _ (kind : Kind V O R T) where
    -- what a request weighs that waits: 3 for its way, one for a launch that is pending then, and its work
    abbrev pub wait_weight : List (Request V O R T) → ℕ
    wait_weight qs = 3 * length qs + (launches_in qs + work_of kind qs)

    -- what waits weighs what goes and what stays
    pub wait_split : (n : ℕ) (qs : List (Request V O R T)) → wait_weight (take n qs) + wait_weight (drop n qs) ≡ wait_weight qs
    wait_split n qs =
        let whole = take-append-drop n qs in
        let many = length-append (take n qs) (drop n qs) in
        let launches = launches_in-append (take n qs) (drop n qs) in
        let works = work_of-append kind (take n qs) (drop n qs) in
        let m = ap length whole in
        let l = ap launches_in whole in
        let w = ap (work_of kind) whole in
        omega (arith, many, launches, works, m, l, w)

module _ {V O R T : Type 0} where
  -- where a turn lessened nothing, what it moved was an empty batch of a side of which launches are pending, and no completion came by it
  abbrev pub IsLight : Turn → ClientView V O R T → ClientView V O R T → Type 0
  IsLight (Got n) old new = (1 ≤ pending_at old) × (pending_at new ≡ pending_at old)
  IsLight (Sent n) old new = (1 ≤ pending_at old) × (pending_at new ≡ pending_at old)
  IsLight Pending old new = Unit {0}
  IsLight Idle old new = Unit {0}

some_waits : {X : Type 0} (xs : List X) → xs ≢ [] → 1 ≤ length (take MOST_REQUESTS xs)
some_waits [] ne = absurd (ne refl)
some_waits (x ∷ xs) ne = omega arith

module _ {V C O R T : Type 0} (kind : Kind V O R T) where
  -- what a lane has: what waits, a Bye that was not said, a fetch, a batch that is out, and launches that are pending
  abbrev pub todo : OneLane V C O R T → ℕ
  todo lane = wait_weight kind lane.waits.items + 3 * (unsaid (client_at lane.side).sent + one_of lane.fetching)

  abbrev pub lane_weight : OneLane V C O R T → ℕ
  lane_weight lane = todo lane + (out_weight (client_at lane.side) + pending_at (client_at lane.side))

  -- what is due as an empty batch
  abbrev pub HasCause : OneLane V C O R T → Type 0
  HasCause lane = (lane.fetching ≡ true) ⊎ (1 ≤ pending_at (client_at lane.side))

  module _ (t : ℕ) (was now : PlainTable V O R T) (lane becomes : OneLane V C O R T) where
    abbrev pub before : ℕ
    before = lane_weight lane + core_weight kind (core_at was)

    abbrev pub behind : ℕ
    behind = lane_weight becomes + core_weight kind (core_at now)

    -- a turn at a lane lessens what it and the table have to do, or it was light
    abbrev pub Lessens : Turn → Type 0
    Lessens answer = (behind + 1 ≤ before) ⊎ ((behind ≤ before) × IsLight answer (client_at lane.side) (client_at becomes.side))

    got_falls :
        (n : ℕ) (old new : Books V C (PlainClient V O R T) O R T) → HasGot (plain_theory kind) kind t n was now lane becomes old new → Lessens (Got n)
    got_falls n old new got =
        let (b, room, are) = got.gets.answers in
        let view = client_at lane.side in
        let then = client_at becomes.side in
        let out_was : out_weight view ≡ batch_weight (pending_at view) b =
        ap (λ (o : Option (BatchView V O R T)). out_of (pending_at view) o) are.out in
        let out_now : out_weight then ≡ 0 = ap (λ (o : Option (BatchView V O R T)). out_of (pending_at then) o) got.gets.out in
        let unsaid_is : unsaid then.sent ≡ unsaid view.sent = ap (λ (qs : List (Request V O R T)). unsaid qs) got.gets.sent in
        let launches : launches_in then.sent ≡ launches_in view.sent = ap launches_in got.gets.sent in
        let ends : ended_in then.got ≡ ended_in view.got + ended_in (got.answers ∷ []) = ap ended_in got.gets.got ∙ ended_in-append view.got (got.answers ∷ []) in
        let waits : wait_weight kind becomes.waits.items ≡ wait_weight kind lane.waits.items = ap (λ xs. wait_weight kind xs.items) got.waits in
        let fetching : one_of becomes.fetching ≡ one_of lane.fetching = ap (λ b. one_of b) got.fetching in
        let falls = collect_weighs kind (core_at was) view.place in
        let table : core_weight kind (core_at now) ≤ core_weight kind (core_at was) =
        subst (λ (core : FullCore V O R T). core_weight kind core ≤ core_weight kind (core_at was)) (sym got.did.core) falls in
        let less : pending_at then ≤ pending_at view = omega (arith, launches, ends) in
        elim (cases_eq (batch_weight (pending_at view) b) 0) [
          | inl nothing ↦
              let (empty, some) = light_batch (pending_at view) b nothing in
              elim (cases_eq (pending_at then) (pending_at view)) [
                | inl same ↦ inr (omega (arith, out_was, out_now, unsaid_is, waits, fetching, table, less), (some, same))
                | inr ne ↦ inl (omega (arith, out_was, out_now, unsaid_is, waits, fetching, table, less, ne))
              ]
          | inr something ↦ inl (omega (arith, out_was, out_now, unsaid_is, waits, fetching, table, less, something))
        ]

    looked_falls :
        (old new : Books V C (PlainClient V O R T) O R T) → HasLooked (plain_theory kind) was now lane becomes old new → Lessens Pending
    looked_falls old new looked =
        let (batch, was_out, now_out) = looked.pending.out in
        let view = client_at lane.side in
        let then = client_at becomes.side in
        let launches : launches_in then.sent ≡ launches_in view.sent = ap launches_in looked.pending.sent in
        let ends : ended_in then.got ≡ ended_in view.got = ap ended_in looked.pending.got in
        let same : pending_at then ≡ pending_at view = omega (arith, launches, ends) in
        let out : out_weight then ≡ out_weight view =
        ap (λ n. out_of n then.out) same ∙ ap (λ (o : Option (BatchView V O R T)). out_of (pending_at view) o) (now_out ∙ sym was_out) in
        let unsaid_is : unsaid then.sent ≡ unsaid view.sent = ap (λ (qs : List (Request V O R T)). unsaid qs) looked.pending.sent in
        let waits : wait_weight kind becomes.waits.items ≡ wait_weight kind lane.waits.items = ap (λ (x : OneLane V C O R T). wait_weight kind x.waits.items) looked.stays in
        let fetching : one_of becomes.fetching ≡ one_of lane.fetching = ap (λ (x : OneLane V C O R T). one_of x.fetching) looked.stays in
        let falls = collect_weighs kind (core_at was) view.place in
        let table : core_weight kind (core_at now) ≤ core_weight kind (core_at was) =
        subst (λ (core : FullCore V O R T). core_weight kind core ≤ core_weight kind (core_at was)) (sym looked.did.core) falls in
        inr (omega (arith, same, out, unsaid_is, waits, fetching, table), tt)

    module _ (mine : IsClientOf kind was lane.side) (cause : IsFetchDue (plain_theory kind) lane → HasCause lane) where
      -- what a batch weighs that went, at its side and in its slot
      went_weighs :
          (b : List (Request V O R T)) (room : ℕ) → Publishes b room (client_at lane.side) (client_at becomes.side)
          → core_at now ≡ publish (client_at lane.side).place b room (core_at was)
          → (out_weight (client_at becomes.side) ≡ batch_weight (pending_at (client_at becomes.side)) b)
          × (core_weight kind (core_at now) ≤ core_weight kind (core_at was) + (batch_weight (pending_at (client_at becomes.side)) b + work_of kind b))
          × (pending_at (client_at becomes.side) ≡ launches_in (client_at lane.side).sent + launches_in b - ended_in (client_at lane.side).got)
      went_weighs b room publishes core =
          let view = client_at lane.side in
          let then = client_at becomes.side in
          let slot = slot_of (core_at was) view.place in
          let sent_is : then.sent ≡ slot.sent ++ b = publishes.sent ∙ ap (λ (v : ClientView V O R T). v.sent ++ b) mine.view in
          let got_is : then.got ≡ slot.got = publishes.got ∙ ap (λ (v : ClientView V O R T). v.got) mine.view in
          let at : pending_at then ≡ pending (slot.sent ++ b) slot.got = ap (λ qs. pending qs then.got) sent_is ∙ ap (λ g. pending (slot.sent ++ b) g) got_is in
          let falls = publish_weighs kind (core_at was) view.place b room in
          let moved : core_weight kind (core_at now) ≤ core_weight kind (core_at was) + (batch_weight (pending (slot.sent ++ b) slot.got) b + work_of kind b) =
          subst (λ (c : FullCore V O R T). core_weight kind c ≤ core_weight kind (core_at was) + (batch_weight (pending (slot.sent ++ b) slot.got) b + work_of kind b)) (sym core) falls in
          let launches = ap launches_in publishes.sent ∙ launches_in-append view.sent b in
          let ends = ap ended_in publishes.got in (
            ap (λ (o : Option (BatchView V O R T)). out_of (pending_at then) o) publishes.out,
            subst (λ n. core_weight kind (core_at now) ≤ core_weight kind (core_at was) + (batch_weight n b + work_of kind b)) (sym at) moved,
            ap (λ n. n - ended_in then.got) launches ∙ ap (λ n. launches_in view.sent + launches_in b - n) ends,
          )

      due_falls :
          (n : ℕ) (b : List (Request V O R T)) (room : ℕ) → IsDue (plain_theory kind) lane b becomes.waits.items → becomes.fetching ≡ false
          → Publishes b room (client_at lane.side) (client_at becomes.side) → core_at now ≡ publish (client_at lane.side).place b room (core_at was)
          → (client_at lane.side).out ≡ None → Lessens (Sent n)
      due_falls n b room (inl (some, first, rest)) fetching publishes core free =
          let (out, table, at) = went_weighs b room publishes core in
          let most = batch_weight_most (pending_at (client_at becomes.side)) b in
          let none : one_of becomes.fetching ≡ 0 = ap (λ b. one_of b) fetching in
          let unsaid_is = ap (λ (qs : List (Request V O R T)). unsaid qs) publishes.sent in
          let more = unsaid_more (client_at lane.side).sent b in
          let split = wait_split kind MOST_REQUESTS lane.waits.items in
          let one = some_waits lane.waits.items some in
          let many : length b ≡ length (take MOST_REQUESTS lane.waits.items) = ap length first in
          let gone : wait_weight kind b ≡ wait_weight kind (take MOST_REQUESTS lane.waits.items) = ap (wait_weight kind) first in
          let stays : wait_weight kind becomes.waits.items ≡ wait_weight kind (drop MOST_REQUESTS lane.waits.items) = ap (wait_weight kind) rest in
          inl (omega (arith, out, table, at, most, none, unsaid_is, more, split, one, many, gone, stays))
      due_falls n b room (inr (inl (bye, is, rest))) fetching publishes core free =
          let (out, table, at) = went_weighs b room publishes core in
          let most = batch_weight_most (pending_at (client_at becomes.side)) b in
          let none : one_of becomes.fetching ≡ 0 = ap (λ b. one_of b) fetching in
          let now_said : unsaid (client_at becomes.side).sent ≡ 0 =
          ap (λ (qs : List (Request V O R T)). unsaid qs) (publishes.sent ∙ ap (λ xs. (client_at lane.side).sent ++ xs) is)
          ∙ ap (λ x. cond x 0 1) (bye_at (client_at lane.side).sent []) in
          let was_unsaid : unsaid (client_at lane.side).sent ≡ 1 = ap (λ x. cond x 0 1) bye.2 in
          let waits : wait_weight kind becomes.waits.items ≡ 0 = ap (wait_weight kind) rest in
          let launches : launches_in b ≡ 0 = ap launches_in is in
          let works : work_of kind b ≡ 0 = ap (work_of kind) is in
          inl (omega (arith, out, table, at, most, none, now_said, was_unsaid, waits, launches, works))
      due_falls n b room (inr (inr (fetch, is, rest))) fetching publishes core free =
          let (out, table, at) = went_weighs b room publishes core in
          let view = client_at lane.side in
          let then = client_at becomes.side in
          let most = batch_weight_most (pending_at then) b in
          let none : one_of becomes.fetching ≡ 0 = ap (λ b. one_of b) fetching in
          let unsaid_is = ap (λ (qs : List (Request V O R T)). unsaid qs) publishes.sent in
          let more = unsaid_more view.sent b in
          let waits : wait_weight kind becomes.waits.items ≡ 0 = ap (wait_weight kind) rest in
          let launches : launches_in b ≡ 0 = ap launches_in is in
          let works : work_of kind b ≡ 0 = ap (work_of kind) is in
          let same : pending_at then ≡ pending_at view = omega (arith, at, launches) in
          elim (cause fetch) [
            | inl asked ↦
                let one : one_of lane.fetching ≡ 1 = ap (λ b. one_of b) asked in
                inl (omega (arith, out, table, most, none, unsaid_is, more, waits, works, same, one))
            | inr some ↦
                let nothing : batch_weight (pending_at then) b ≡ 0 = ap (batch_weight (pending_at then)) is ∙ nought_some (pending_at then) (omega (arith, same, some)) in
                inr (omega (arith, out, table, nothing, none, unsaid_is, more, waits, works, same), (some, same))
          ]

      sent_falls :
          (n : ℕ) (old new : Books V C (PlainClient V O R T) O R T) → HasSent (plain_theory kind) n was now lane becomes old new → Lessens (Sent n)
      sent_falls n old new sent =
          due_falls n sent.batch.requests.items sent.batch.room sent.due sent.fetching sent.publishes sent.did.core sent.free

  -- where nothing was done, the lane stays
  pub idle_stays :
      (t : ℕ) (was now : PlainTable V O R T) (lane becomes : OneLane V C O R T) (old new : Books V C (PlainClient V O R T) O R T)
      → HasNothing (plain_theory kind) was now lane becomes old new → slice_get old.lanes.items t ≡ Some lane
      → new.lanes.items ≡ slice_set old.lanes.items t becomes → becomes ≡ lane
  idle_stays t was now lane becomes old new nothing at set =
      let here : slice_get new.lanes.items t ≡ Some becomes =
      subst (λ xs. slice_get xs t ≡ Some becomes) (sym set) (set_here old.lanes.items t becomes (slice_get_within old.lanes.items t lane at)) in
      same_element old.lanes.items t lane becomes at (subst (λ (x : Books V C (PlainClient V O R T) O R T). slice_get x.lanes.items t ≡ Some becomes) nothing.kept here)

  pub turn_falls :
      (t : ℕ) (answer : Turn) (was now : PlainTable V O R T) (old new : Books V C (PlainClient V O R T) O R T)
      (h : HasTurned (plain_theory kind) kind t answer was now old new) → IsClientOf kind was h.lane.side
      → (IsFetchDue (plain_theory kind) h.lane → HasCause h.lane) → Lessens t was now h.lane h.becomes answer
  turn_falls t (Got n) was now old new h mine cause = got_falls t was now h.lane h.becomes n old new h.tells
  turn_falls t Pending was now old new h mine cause = looked_falls t was now h.lane h.becomes old new h.tells
  turn_falls t (Sent n) was now old new h mine cause = sent_falls t was now h.lane h.becomes mine cause n old new h.tells
  turn_falls t Idle was now old new h mine cause =
      let same = idle_stays t was now h.lane h.becomes old new h.tells h.turns.of_lane h.turns.lanes in
      let weight : lane_weight h.becomes ≡ lane_weight h.lane = ap (λ (x : OneLane V C O R T). lane_weight x) same in
      let table : core_weight kind (core_at now) ≡ core_weight kind (core_at was) = ap (λ (x : PlainTable V O R T). core_weight kind (core_at x)) h.tells.table in
      inr (omega (arith, weight, table), tt)
