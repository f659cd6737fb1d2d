-- Behind a light serving turn an unfinished launch means that a batch of asks is out above, at a greater trustee.
use Rattle.std.proofs.Common.{◌≡◌, ◌≢◌, ℕ, ◌+◌, ◌-◌, ◌≤◌, ◌<◌, ◌⊎◌, inl, inr, false, List, [], ◌∷◌, ◌++◌, length, map, slice_index_or, refl, sym, ◌∙◌, ap, subst, arith, length-drop, append-nil}
use Rattle.std.specs.Prelude.{slice_get, IsSome, nat_lt, cond}
use Rattle.std.specs.List.{AllByRecursion, AllZip, range_with_len}
use Rattle.std.specs.declared.option.Option.{Option}
use Rattle.std.specs.declared.option.Option.TheVariants.{None, Some}
use Rattle.std.proofs.lemmas.Bool.{cases_lt}
use Rattle.std.proofs.lemmas.List.{get_or_past, length-map}
use Rattle.std.proofs.lemmas.List.FromFn.{length-map-range_with_len}
use Rattle.std.proofs.lemmas.Option.{slice_get_within}
use Rattle.tm_seq.specs.Kind.{Kind}
use Rattle.tm_batch.specs.declared.config.Config.{Config}
use Rattle.tm_batch.specs.declared.config.First.{First}
use Rattle.tm_batch.specs.declared.message.Request.{Request}
use Rattle.tm_batch.specs.declared.message.AnswerBatch.{AnswerBatch}
use Rattle.tm_model.specs.declared.entry.Entry.{Entry}
use Rattle.tm_model.specs.State.{Awaits, Start, AskOf, Setup, State, ids_above, place_count}
use Rattle.tm_model.specs.Opening.{ids_at}
use Rattle.tm_model.specs.Serve.{works_in, state_after}
use Rattle.tm_model.specs.Legal.{IsLegal}
use Rattle.tm_model.specs.Laws.{IsOpening, IsSoundObject}
use Rattle.tm_model.specs.Given.{tickets_given}
use Rattle.tm_model.specs.Holds.{unfinished}
use Rattle.tm_model.specs.Fits.{Fits}
use Rattle.tm_model.specs.Ran.{ran, answered}
use Rattle.tm_model.specs.Slots.{Empty, Asked, Taken, Answered, slot_of, is_answered}
use Rattle.tm_model.specs.Good.{FullBox}
use Rattle.tm_core.proofs.Finding.{all_found}
use Rattle.tm_core.proofs.Longer.{ids_never_return}
use Rattle.tm_core.proofs.Ordered.{opening_ordered, log_ordered}
use Rattle.tm_core.proofs.Sound.{states_are_sound}
use Rattle.tm_pair.specs.Views.{BatchView, ClientView, TrusteeView, hand_of}
use Rattle.tm_pair.specs.Sides.{HasRun, IsGoodClient}
use Rattle.tm_pair.specs.SideViews.{batch_out, hand_in}
use Rattle.tm_pair.specs.Plain.{opening_at, core_at, client_at, trustee_at, plain_theory}
use Rattle.tm_pair.specs.declared.plain.PlainTable.{PlainTable}
use Rattle.tm_pair.specs.declared.plain.PlainClient.{PlainClient}
use Rattle.tm_state.specs.Asking.{HaveAllEnded}
use Rattle.tm_trustee.specs.Above.{one_if, moves_up, unsent, GoesUpAt}
use Rattle.tm_trustee.specs.Awaiting.{IsAskAt}
use Rattle.tm_trustee.specs.Lanes.{IsLane}
use Rattle.tm_trustee.specs.NestedAsks.{NestedAsk, target, asks_of, replies_of, pending_of, works_at, asked_by, IsAmong}
use Rattle.tm_trustee.specs.Serving.{IsServing, resumes_in, done_by}
use Rattle.tm_trustee.specs.declared.lane.Lane.{Lane}
use Rattle.tm_trustee.specs.declared.served.Served.{Served}
use Rattle.tm_trustee.proofs.Elements.{element_at, there_too, mapped, set_here}
use Rattle.tm_trustee.proofs.Runs.{asks_of-append, quiet_asks}
use Rattle.tm_client.proofs.Living.{answers_are, answers_fitting}
use Rattle.tm_turns.specs.Whole.{AreOf}
use Rattle.tm_turns.specs.Going.{ServesAt}
use Rattle.tm_turns.specs.declared.turns.Turns.{Turns}
use Rattle.tm_turns.proofs.AtRest.{hand_at}
use Rattle.tm_turns.proofs.Falling.{IsLightServe}
use Rattle.tm_turns.proofs.Others.{seats_stay}
use Rattle.tm_turns.proofs.Owing.{runs_in, runs_in-append, tickets_most, asked_replied, has_work}
use Rattle.tm_turns.proofs.Quiet.{box_in, up_stays, moved_none}
use Rattle.tm_turns.proofs.Seated.{home_at}
use Rattle.tm_turns.proofs.ServeKeeps.{clients_of}
use Rattle.tm_turns.proofs.Spending.{resumes_in-append}
use Rattle.tm_turns.proofs.WentUp.{says_more, went_up}

some_among : {X : Type 0} (x : X) (xs : List X) → IsAmong x xs → 1 ≤ length xs
some_among x [] among = absurd among
some_among x (y ∷ xs) among = omega arith

ask_within : (setup : Setup) (u : ℕ) (awaits : Awaits) → IsAskAt setup u awaits → 1 ≤ length (ids_above setup u)
ask_within setup u Start is = absurd is
ask_within setup u (AskOf v i) (same, lt) = omega (arith, lt)

module _ {V O R T : Type 0} where
  -- an object is held above at a trustee alone
  above_within :
      (opening : State V O R T) (u : ℕ) → IsOpening opening → 1 ≤ length (ids_above opening.setup u) → u < opening.setup.config.trustees
  above_within opening u (number, config, first, can, below, is) some =
      let f : ℕ → List ℕ = λ v. cond (nat_lt number v) (ids_at v (config.clients + number) first) [] in
      let some' : 1 ≤ length (slice_index_or (map f (range_with_len 0 config.trustees)) u []) =
      subst (λ (s : State V O R T). 1 ≤ length (ids_above s.setup u)) is some in
      subst (λ (s : State V O R T). u < s.setup.config.trustees) (sym is)
      (elim (cases_lt u config.trustees) [
        | inl lt ↦ lt
        | inr past ↦
            let many = length-map-range_with_len f 0 config.trustees in
            let none = ap (λ (l : List ℕ). length l) (get_or_past (map f (range_with_len 0 config.trustees)) u [] (omega (arith, many, past))) in
            absurd (omega (arith, some', none))
      ])

  -- a batch that is out is asked, where no answers stand in its slot and none is in hand
  pub only_asked :
      (box : FullBox V O R T) (sent : List (Request V O R T)) (batch : BatchView V O R T) → batch_out box sent ≡ Some batch → is_answered box ≡ false
      → hand_in box ≡ None → (room : ℕ) × (box ≡ Asked batch.requests room)
  only_asked Empty sent batch out unanswered free = absurd cc
  only_asked (Asked b room) sent batch out unanswered free =
      let is : ◌≡◌ {A = BatchView V O R T} (record { requests = b; room = room }) batch = cc in (room, ap (λ (x : BatchView V O R T). Asked x.requests room) is)
  only_asked (Taken b room) sent batch out unanswered free = absurd cc
  only_asked (Answered a upto room) sent batch out unanswered free = absurd cc

  some_batch : (o : Option (BatchView V O R T)) → IsSome o → (batch : BatchView V O R T) × (o ≡ Some batch)
  some_batch None some = absurd cc
  some_batch (Some batch) some = (batch, refl)

  sent_all : (out : Option (BatchView V O R T)) (sent run : List (Request V O R T)) → HasRun out sent run → out ≡ None → sent ≡ run
  sent_all None sent run h none = h
  sent_all (Some batch) sent run h none = absurd cc

  module _ (kind : Kind V O R T) where
    -- of a side at which nothing was moved a batch is out, or nothing that its work asked was left to send
    asks_out :
        (waits : List (ℕ × O)) (all : Type 0) (was now : PlainTable V O R T) (old new : PlainClient V O R T) → moves_up (client_at old) (client_at new) ≡ 0
        → GoesUpAt (plain_theory kind) waits all was now old new
        → IsSome (client_at old).out
        ⊎ (((client_at new).out ≡ None) × ((client_at new).sent ≡ (client_at old).sent) × (waits ≡ []))
    asks_out waits all was now old new none (between, mid, inl (some, looked), mine, says) = inl some
    asks_out waits all was now old new none (between, mid, inr (inl (free, ne, (batch, applies, first, room, publishes, did, keeps))), mine, says) =
        let zero : one_if (client_at old).out ≡ 0 = ap (λ (o : Option (BatchView V O R T)). one_if o) free in
        let one : one_if (client_at mid).out ≡ 1 = ap (λ (o : Option (BatchView V O R T)). one_if o) publishes.out in
        let got : length (client_at mid).got ≡ length (client_at old).got = ap (λ (xs : List (AnswerBatch V O R T)). length xs) publishes.got in
        let more = says_more kind all between now mid new says in
        absurd (omega (arith, zero, one, got, more, none))
    asks_out waits all was now old new none (between, mid, inr (inr (free, nothing, same, kept, keeps)), mine, inl (is, unsaid, (batch, requests, room, publishes, did, its))) =
        let zero : one_if (client_at old).out ≡ 0 = ap (λ (o : Option (BatchView V O R T)). one_if o) free in
        let one : one_if (client_at new).out ≡ 1 = ap (λ (o : Option (BatchView V O R T)). one_if o) publishes.out in
        let got : length (client_at new).got ≡ length (client_at mid).got = ap (λ (xs : List (AnswerBatch V O R T)). length xs) publishes.got in
        let got_mid : length (client_at mid).got ≡ length (client_at old).got = ap (λ (v : ClientView V O R T). length v.got) kept in
        absurd (omega (arith, zero, one, got, got_mid, none))
    asks_out waits all was now old new none (between, mid, inr (inr (free, nothing, same, kept, keeps)), mine, inr (stays, table, either)) =
        let view : client_at new ≡ client_at old = ap (λ (x : PlainClient V O R T). client_at x) stays ∙ kept in
        inr (ap (λ (v : ClientView V O R T). v.out) view ∙ free, ap (λ (v : ClientView V O R T). v.sent) view, nothing)

    -- where all that was sent was answered, and all that was asked was sent, all asks were told a reply
    all_told :
        (opening : State V O R T) (done : List (Entry V O R T)) (u : ℕ) (up : ClientView V O R T) (lane : Lane V O R T) (table : State V O R T)
        → IsLane kind opening done u up lane → lane.came.items ≡ [] → IsGoodClient kind table up → up.out ≡ None
        → length (asks_of opening.setup u done) ≤ length (asked_by up.sent)
        → length (asks_of opening.setup u done) ≤ length (replies_of kind opening u done)
    all_told opening done u up lane table is told good free few =
        let all : up.sent ≡ ran up.place up.seen = sent_all up.out up.sent (ran up.place up.seen) good.runs free in
        let fits : AllZip Fits up.sent (answered up.place up.seen) =
        subst (λ qs. AllZip Fits qs (answered up.place up.seen)) (sym all)
        (subst (λ l. AllZip Fits (ran up.place up.seen) l) (answers_are kind table up good) (answers_fitting kind table up good)) in
        let replied = asked_replied up.sent (answered up.place up.seen) fits in
        elim is.answers [
          | inl (nothing, none, empty) ↦
              let zero = ap (λ (qs : List (Request V O R T)). length (asked_by qs)) nothing in
              omega (arith, few, zero)
          | inr same ↦
              let count = ap (λ l. length l) (ap (λ l. map (λ t. t.reply) (replies_of kind opening u done) ++ l) (sym told) ∙ same) in
              let own = ap (λ l. length l) (append-nil (map (λ t. t.reply) (replies_of kind opening u done))) ∙ length-map (replies_of kind opening u done) (λ t. t.reply) in
              omega (arith, few, replied, count, own)
        ]

module _ {V C O R T : Type 0} (kind : Kind V O R T) (config : Config) (first : List (First V)) (t : ℕ) (served : Served) (old new : Turns V C O R T)
    (are : AreOf kind config first old) (is : ServesAt kind t served old new) (light : IsLightServe kind t served old new is) where
  -- a batch of asks of the trustee is out at a greater one
  pub record AsksOut : Type 0 where
    pub index : ℕ
    pub table : PlainTable V O R T
    pub batch : List (Request V O R T)
    pub room : ℕ
    pub at : slice_get new.tables.items (t + 1 + index) ≡ Some table
    pub box : box_in (config.clients + t) table ≡ Asked batch room
    pub some : batch ≢ []

  abbrev done_was : List (Entry V O R T)
  done_was = done_by (plain_theory kind) is.trustee

  abbrev done_now : List (Entry V O R T)
  done_now = done_by (plain_theory kind) is.becomes

  pub of_now : slice_get new.trustees.items t ≡ Some is.becomes
  of_now =
      subst (λ xs. slice_get xs t ≡ Some is.becomes) (sym is.trustees)
      (set_here old.trustees.items t is.becomes (slice_get_within old.trustees.items t is.trustee is.of_trustee))

  module _ (was now : PlainTable V O R T) (at_was : slice_get old.tables.items t ≡ Some was) (at_now : slice_get new.tables.items t ≡ Some now) where
    abbrev opening : State V O R T
    opening = opening_at was

    opens : opening_at now ≡ opening_at was
    opens = (is.keeps config first are).tables t now at_now ∙ sym (are.tables t was at_was)

    serving_was : IsServing (plain_theory kind) kind opening is.trustee
    serving_was = (home_at kind config first old are t was is.trustee at_was is.of_trustee).1

    serving_now : IsServing (plain_theory kind) kind opening is.becomes
    serving_now =
        subst (λ s. IsServing (plain_theory kind) kind s is.becomes) opens
        (home_at kind config first new (is.keeps config first are) t now is.becomes at_now of_now).1

    -- what it did in the turn
    pub grew : (more : List (Entry V O R T)) × (done_now ≡ done_was ++ more) × (resumes_in more ≡ 0)
    grew =
        let number = (are.trustees t is.trustee is.of_trustee).0 in
        let turned = is.turned was now (subst (λ k. slice_get old.tables.items k ≡ Some was) (sym number) at_was) (subst (λ k. slice_get new.tables.items k ≡ Some now) (sym number) at_now) in
        let (es, more, e, only, none) = turned.done in
        let all = ap resumes_in e ∙ resumes_in-append done_was (es ++ more) in
        let same = light.resumes in
        (es ++ more, e, omega (arith, all, same))

    -- it gave out no tickets
    same_ticket : runs_in done_now ≡ runs_in done_was → (state_after kind opening done_now).next_ticket ≤ (state_after kind opening done_was).next_ticket
    same_ticket ran =
        let (more, e, none) = grew in
        let current = serving_now.current.represents in
        let before = serving_was.current.represents in
        let (ids, next, tickets, ticket_now, never) = ids_never_return kind opening done_now [] current.opens (subst (IsLegal kind opening) (sym (append-nil done_now)) current.is_legal) in
        let (ids', next', tickets', ticket_was, never') = ids_never_return kind opening done_was [] before.opens (subst (IsLegal kind opening) (sym (append-nil done_was)) before.is_legal) in
        let count = ap (λ l. length (tickets_given l)) e in
        let most = tickets_most done_was more in
        let runs = ap runs_in e ∙ runs_in-append done_was more in
        omega (arith, ticket_now, ticket_was, count, most, runs, ran)

    -- an ask of a greater trustee was not told a reply
    untold :
        (c : ℕ) → runs_in done_now ≡ runs_in done_was → 1 ≤ unfinished c (state_after kind opening done_now).live
        → (u : ℕ) × (opening.setup.number < u) × (u < opening.setup.config.trustees)
        × (length (replies_of kind opening u done_now) < length (asks_of opening.setup u done_now))
    untold c ran some =
        let number = (are.trustees t is.trustee is.of_trustee).0 in
        let turned = is.turned was now (subst (λ k. slice_get old.tables.items k ≡ Some was) (sym number) at_was) (subst (λ k. slice_get new.tables.items k ≡ Some now) (sym number) at_now) in
        let s = state_after kind opening done_now in
        let current = serving_now.current.represents in
        let n = place_count opening.setup in
        let ordered = log_ordered kind n opening done_now current.is_legal (opening_ordered opening current.opens) in
        let hw = has_work c n 1 s.next_id s.live ordered.rises some in
        let works : works_at s hw.object.id ≡ hw.first ∷ hw.rest = ap (λ o. works_in o) hw.at ∙ hw.works in
        let sound = states_are_sound kind opening done_now current.opens current.is_legal in
        let own : IsSoundObject opening s hw.object = all_found (IsSoundObject opening s) hw.object.id s.live hw.object hw.at sound.objects in
        let all = subst (λ ws. AllByRecursion (λ w. (w.place < place_count opening.setup) × (w.ticket < s.next_ticket)) ws) hw.works own.works in
        let ticket = all.0.1 in
        let same = same_ticket ran in
        let (u, above, ask, (a, among, by, its)) = turned.caught_up hw.object.id hw.first hw.rest works (omega (arith, ticket, same)) in
        let pending = some_among a (pending_of kind opening u done_now) among in
        let count = length-drop (length (replies_of kind opening u done_now)) (asks_of opening.setup u done_now) in
        (u, above, above_within opening u current.opens (ask_within opening.setup u hw.first.awaits ask), omega (arith, pending, count))

    pub asks_are_out : (c : ℕ) → runs_in done_now ≡ runs_in done_was → 1 ≤ unfinished c (state_after kind opening done_now).live → AsksOut
    asks_are_out c ran some =
        let are_new = is.keeps config first are in
        let (u, above, within, few) = untold c ran some in
        let (number, ready) = are.trustees t is.trustee is.of_trustee in
        let (number_now, ready_now) = are_new.trustees t is.becomes of_now in
        let of_setup = serving_was.number in
        let i : ℕ = u - (t + 1) in
        let u_is : t + 1 + i ≡ u = omega (arith, above, number, of_setup) in
        let sides = serving_was.sides in
        let (before, eb) = element_at is.trustee.above.items i (omega (arith, sides, within, number, u_is)) in
        let many = seats_stay kind config first t served old new are is in
        let (after, ea) = there_too is.trustee.above.items is.becomes.above.items i before many eb in
        let below = slice_get_within is.trustee.above.items i before eb in
        let seats = ready.above.as_many in
        let (x, ex) = element_at old.tables.items (t + 1 + i) (omega (arith, below, seats, number)) in
        let (y, ey) = there_too old.tables.items new.tables.items (t + 1 + i) x is.tables.as_many ex in
        let ex_n = subst (λ k. slice_get old.tables.items (k + 1 + i) ≡ Some x) (sym number) ex in
        let ey_n = subst (λ k. slice_get new.tables.items (k + 1 + i) ≡ Some y) (sym number) ey in
        let ey_now = subst (λ k. slice_get new.tables.items (k + 1 + i) ≡ Some y) (sym number_now) ey in
        let view_b = mapped (λ (side : PlainClient V O R T). client_at side) is.trustee.above.items i before eb in
        let view_a = mapped (λ (side : PlainClient V O R T). client_at side) is.becomes.above.items i after ea in
        let moved = moved_none (map (λ (side : PlainClient V O R T). client_at side) is.trustee.above.items)
        (map (λ (side : PlainClient V O R T). client_at side) is.becomes.above.items) i (client_at before) (client_at after) light.quiet view_b view_a in
        let goes = is.above was (subst (λ k. slice_get old.tables.items k ≡ Some was) (sym number) at_was) i x y before after ex_n ey_n eb ea in
        let lanes_now = serving_now.above.as_many in
        let lanes_was = serving_was.above.as_many in
        let ups_was = length-map is.trustee.above.items (λ (side : PlainClient V O R T). client_at side) in
        let ups_now = length-map is.becomes.above.items (λ (side : PlainClient V O R T). client_at side) in
        let (lane, el) = element_at is.trustee.lanes.items i (omega (arith, lanes_was, ups_was, below)) in
        let (lane_new, en) = element_at is.becomes.lanes.items i (omega (arith, lanes_now, ups_now, below, many)) in
        let its_lane = serving_was.lanes i (client_at before) lane view_b el in
        let new_lane = serving_now.lanes i (client_at after) lane_new view_a en in
        let place : before.place ≡ is.trustee.clients + is.trustee.number = serving_was.above.places i (client_at before) view_b in
        let clients = clients_of kind config first old t is.trustee are is.of_trustee in
        let mine = ready.above.mine i x before ex_n eb in
        let went = went_up kind _ _ x y before after moved goes in
        let stays = up_stays kind (HaveAllEnded opening (trustee_at is.becomes.side).log) x y before after mine went moved in
        elim (asks_out kind _ _ x y before after moved goes) [
          | inr (free, same, nothing) ↦
              let (more, e, none) = grew in
              let u_now : is.becomes.number + 1 + i ≡ u = omega (arith, number_now, u_is) in
              let u_was : is.trustee.number + 1 + i ≡ u = omega (arith, number, u_is) in
              let grown : asks_of opening.setup u done_now ≡ asks_of opening.setup u done_was =
              ap (asks_of opening.setup u) e ∙ asks_of-append opening.setup u done_was more
              ∙ ap (λ l. asks_of opening.setup u done_was ++ l) (quiet_asks opening.setup u more none) ∙ append-nil (asks_of opening.setup u done_was) in
              let left : unsent opening.setup done_was u (client_at before) ≡ [] = subst (λ k. unsent opening.setup done_was k (client_at before) ≡ []) u_was nothing in
              let zero = ap (λ (l : List (ℕ × O)). length l) left in
              let count = length-drop (length (asked_by (client_at before).sent)) (map target (asks_of opening.setup u done_was)) in
              let made = length-map (asks_of opening.setup u done_was) target in
              let as_many = ap (λ (l : List (NestedAsk O)). length l) grown in
              let asked = ap (λ (qs : List (Request V O R T)). length (asked_by qs)) same in
              let told = serving_now.told i lane_new en in
              let good = (ready_now.above.mine i y after ey_now ea).is_good in
              let all = all_told kind opening done_now u (client_at after) lane_new (opening_at y) (subst (λ k. IsLane kind opening done_now k (client_at after) lane_new) u_now new_lane) told good free
              (omega (arith, zero, count, made, as_many, asked)) in
              absurd (omega (arith, all, few))
          | inl out ↦
              let (batch, is_out) = some_batch (client_at before).out out in
              let slot = slot_of (core_at x) before.place in
              let shows : batch_out slot.box slot.sent ≡ Some batch = ap (λ (v : ClientView V O R T). v.out) (sym mine.view) ∙ is_out in
              let trustees = are.as_many_trustees in
              let tables = are.as_many_tables in
              let inside = slice_get_within old.tables.items (t + 1 + i) x ex in
              let (upper, of_upper) = element_at old.trustees.items (t + 1 + i) (omega (arith, inside, trustees, tables)) in
              let (hers, serving) = home_at kind config first old are (t + 1 + i) x upper ex of_upper in
              let free : hand_in slot.box ≡ None =
              sym (hand_at (core_at x).slots before.place) ∙ ap (λ (v : TrusteeView V O R T). hand_of v before.place) (sym hers.view) ∙ serving.free before.place in
              let (room, asked) = only_asked slot.box slot.sent batch shows stays.unanswered free in
              let at_place : before.place ≡ config.clients + t = omega (arith, place, clients, number) in
              record {
                index = i;
                table = y;
                batch = batch.requests;
                room = room;
                at = ey;
                box = ap (λ k. box_in k y) (sym at_place) ∙ stays.boxes before.place ∙ asked;
                some = its_lane.full batch is_out;
              }
        ]
