-- What each trustee is where no request of a client counts.
use Rattle.std.proofs.Common.{◌≡◌, ℕ, zero, suc, ◌+◌, ◌-◌, ◌<◌, ◌≤◌, inl, inr, Bool, true, false, List, [], ◌∷◌, ◌++◌, length, map, refl, sym, ◌∙◌, ap, subst, arith, append_assoc, append-nil, length-append}
use Rattle.std.specs.Prelude.{slice_get, drop}
use Rattle.std.specs.List.{AllByRecursion}
use Rattle.std.specs.declared.option.Option.TheVariants.{Some}
use Rattle.std.proofs.lemmas.List.{length-map}
use Rattle.std.proofs.lemmas.Option.{slice_get_within}
use Rattle.tm_seq.specs.Kind.{Kind}
use Rattle.tm_batch.specs.declared.config.Config.{Config}
use Rattle.tm_batch.specs.declared.config.First.{First}
use Rattle.tm_batch.specs.declared.message.Answer.TheVariants.{Replied}
use Rattle.tm_model.specs.declared.entry.Entry.{Entry}
use Rattle.tm_model.specs.State.{Work, State, place_count, object_of}
use Rattle.tm_model.specs.Serve.{state_after}
use Rattle.tm_model.specs.Legal.{HasFirst, IsLegal}
use Rattle.tm_model.specs.Laws.{IsOpening, IsSoundObject}
use Rattle.tm_model.specs.Lists.{IsPrefix}
use Rattle.tm_model.specs.Orderly.{IsOfTrustee}
use Rattle.tm_model.specs.Opening.{opening_of}
use Rattle.tm_model.specs.Ran.{mark_of, ran, answered}
use Rattle.tm_model.specs.Holds.{has_bye, launches_in, ended_in, unfinished}
use Rattle.tm_model.specs.Slots.{slot_of}
use Rattle.tm_model.specs.Batches.{batches}
use Rattle.tm_model.specs.GoodSlots.{IsGoodSlot}
use Rattle.tm_core.proofs.AllAnswers.{as_many}
use Rattle.tm_core.proofs.CallerLemmas.{all_weaker}
use Rattle.tm_core.proofs.Finding.{all_found}
use Rattle.tm_core.proofs.Joins.{legal_logs_join}
use Rattle.tm_core.proofs.Longer.{answered-append}
use Rattle.tm_core.proofs.Sound.{states_are_sound}
use Rattle.tm_laws.specs.Objects.{runs_for}
use Rattle.tm_pair.specs.Views.{ClientView, TrusteeView}
use Rattle.tm_pair.specs.Plain.{opening_at, core_at, client_at, trustee_at, IsTrusteeOf, plain_theory}
use Rattle.tm_pair.specs.SideViews.{batch_out, client_of}
use Rattle.tm_pair.specs.declared.plain.PlainTable.{PlainTable}
use Rattle.tm_pair.specs.declared.plain.PlainClient.{PlainClient}
use Rattle.tm_client.proofs.Tickets.{tickets_tell}
use Rattle.tm_client.specs.Lanes.{asks_in, out_requests}
use Rattle.tm_client.specs.declared.lane.Unfinished.{Unfinished}
use Rattle.tm_trustee.specs.NestedAsks.{NestedAsk, asks_of, replies_of, pending_of, works_at, IsTied}
use Rattle.tm_trustee.specs.Awaiting.{IsAskAt, AreAwaited}
use Rattle.tm_trustee.specs.Serving.{done_by, IsServing}
use Rattle.tm_trustee.proofs.Elements.{element_at, mapped}
use Rattle.tm_turns.specs.Whole.{OneLane, OneTrustee, HasLane, AreOf}
use Rattle.tm_turns.specs.declared.turns.Turns.{Turns}
use Rattle.tm_turns.proofs.Launched.{all_tied}
use Rattle.tm_turns.proofs.Seated.{SeatAt, side_at, lane_shows, seat_shows, home_at, places_are}
use Rattle.tm_turns.proofs.TurnKeeps.{client_below}
use Rattle.tm_turns.proofs.Unlaunched.{launches_none}
use Rattle.tm_course.specs.Courses.{NoneWorks}
use Rattle.tm_rest.specs.Resting.{asks_told, NothingCounts, IsIdle, RestsAreIdle}
use Rattle.tm_rest.proofs.Boxes.{launch_none, all_run, ran_front, ended_more, nothing_since, none_of_all}
use Rattle.tm_rest.proofs.Runs.{runs_are, runs_told, all_front}

nothing_of : {X : Type 0} (xs : List X) → length xs ≡ 0 → xs ≡ []
nothing_of [] e = refl
nothing_of (x ∷ xs) e = absurd (omega (arith, e))

dropped_all : {X : Type 0} (n : ℕ) (xs : List X) → drop n xs ≡ [] → length xs ≤ n
dropped_all n [] e = omega arith
dropped_all zero (x ∷ xs) e = absurd cc
dropped_all (suc n) (x ∷ xs) e = let more = dropped_all n xs e in omega (arith, more)

joined_empty : {X : Type 0} (xs ys : List X) → length (xs ++ ys) ≡ 0 → (xs ≡ []) × (ys ≡ [])
joined_empty xs ys e = let j = length-append xs ys in (nothing_of xs (omega (arith, e, j)), nothing_of ys (omega (arith, e, j)))

false_or : (b : Bool) → (b ≡ true → ⊥) → b ≡ false
false_or true h = absurd (h refl)
false_or false h = refl

-- where no launch is unfinished, none is the first of its object
pending_none :
    {T O : Type 0} (works : ℕ → List (Work T)) (P : NestedAsk O → Work T → Type 0) (asks : List (NestedAsk O)) → ((id : ℕ) → works id ≡ [])
    → AllByRecursion (λ a. HasFirst (works a.by) (P a)) asks → asks ≡ []
pending_none works P [] none all = refl
pending_none works P (a ∷ asks) none all = absurd (subst (λ ws. HasFirst ws (P a)) (none a.by) all.0)

module _ {V C O R T : Type 0} (kind : Kind V O R T) (config : Config) (first : List (First V)) (turns : Turns V C O R T) (are : AreOf kind config first turns)
    (none : NothingCounts turns) where
  -- a lane at which no request counts: nothing of a caller's is out, and each launch that was sent has ended
  record IsLaneIdle (lane : OneLane V C O R T) : Type 0 where
    pub out : asks_in (out_requests (client_at lane.side).out) ≡ []
    pub no_bye : has_bye (client_at lane.side).sent ≡ false
    pub ended : launches_in (client_at lane.side).sent ≡ ended_in (client_at lane.side).got

  lane_idle : (c t : ℕ) (lane : OneLane V C O R T) → HasLane turns c t lane → IsLaneIdle lane
  lane_idle c t lane has =
      let within = slice_get_within has.client.books.lanes.items t lane has.of_lane in
      let (number, many, ok) = are.clients c has.client has.of_client in
      let tables = are.as_many_tables in
      let (table, at) = element_at turns.tables.items t (omega (arith, within, many, tables)) in
      let mine = are.seated c t lane table has at in
      let own = ok.lanes t lane has.of_lane in
      let (nought, opened) = none c t lane has in
      let counting = own.counting in
      let both = joined_empty (asks_in (out_requests (client_at lane.side).out)) lane.waits.items (omega (arith, counting, nought)) in
      let tells = (tickets_tell kind (opening_at table) (client_at lane.side) mine.is_good).launches in
      let waiting = ap (λ l. length l) own.launched in
      let as_many = length-map lane.launched.items (λ (l : Unfinished C). l.ticket) in
      let out_none = launch_none (out_requests (client_at lane.side).out) both.0 in
      record {
        out = both.0;
        no_bye = false_or (has_bye (client_at lane.side).sent) (λ said. let (closing, counts) = own.last (own.said ∙ said) in let bad : true ≡ false = sym closing ∙ opened in cc);
        ended = omega (arith, tells, waiting, as_many, counting, nought, out_none);
      }

  module _ (t : ℕ) (trustee : OneTrustee V O R T) (table : PlainTable V O R T) (of : slice_get turns.trustees.items t ≡ Some trustee) (at : slice_get turns.tables.items t ≡ Some table) where
    abbrev pub log : List (Entry V O R T)
    log = (trustee_at trustee.side).log

    home : IsTrusteeOf kind table trustee.side × IsServing (plain_theory kind) kind (opening_at table) trustee
    home = home_at kind config first turns are t table trustee at of

    log_is : (core_at table).log ≡ log
    log_is = ap (λ (v : TrusteeView V O R T). v.log) (sym home.0.view)

    places : place_count (opening_at table).setup ≡ config.clients + t
    places = places_are kind config first turns are t table at

    -- no launch of a place is unfinished
    none_of_place : (c : ℕ) → c < place_count (opening_at table).setup → unfinished c (state_after kind (opening_at table) log).live ≡ 0
    none_of_place c lt =
        let slot = slot_of (core_at table) c in
        let count = home.0.of_table.good.places in
        let launches = (home.0.of_table.good.accounts c (omega (arith, count, lt))).launches in
        let here = ap (λ l. unfinished c (state_after kind (opening_at table) l).live) log_is in
        let more = ended_more slot.box slot.got in
        elim (side_at kind config first turns are t c table at lt) [
          | inl (lane, has) ↦
              let ended = (lane_idle c t lane has).ended in
              let shows = lane_shows kind config first turns are t c table lane at has in
              let sent = ap (λ (v : ClientView V O R T). launches_in v.sent) shows in
              let got = ap (λ (v : ClientView V O R T). ended_in v.got) shows in
              omega (arith, launches, here, more, ended, sent, got)
          | inr s ↦
              let (number, ready) = are.trustees s.number s.trustee s.of_trustee in
              let trustees = are.as_many_trustees in
              let tables = are.as_many_tables in
              let u_lt = slice_get_within turns.trustees.items s.number s.trustee s.of_trustee in
              let (own, at_own) = element_at turns.tables.items s.number (omega (arith, u_lt, trustees, tables)) in
              let served = (home_at kind config first turns are s.number own s.trustee at_own s.of_trustee).1 in
              let asked = served.above.asked s.index (client_at s.seat) (mapped (λ (side : PlainClient V O R T). client_at side) s.trustee.above.items s.index s.seat s.of_seat) in
              let nought = launches_none (client_at s.seat).sent asked in
              let sent = ap (λ (v : ClientView V O R T). launches_in v.sent) (seat_shows kind config first turns are t c table at s) in
              omega (arith, launches, here, nought, sent)
        ]

    pub opens : IsOpening (opening_at table)
    opens = home.1.current.represents.opens

    pub legal_parts : IsLegal kind (opening_at table) log × IsLegal kind (state_after kind (opening_at table) log) trustee.since.items
    legal_parts = (legal_logs_join kind (opening_at table) log trustee.since.items).0 home.1.current.represents.is_legal

    pub works : NoneWorks (state_after kind (opening_at table) log)
    works id =
        let s = state_after kind (opening_at table) log in
        let sound = states_are_sound kind (opening_at table) log opens legal_parts.0 in
        none_of_all (place_count (opening_at table).setup) s.live none_of_place
        (λ i o found. all_weaker (λ (w : Work T). (w.place < place_count (opening_at table).setup) × (w.ticket < s.next_ticket)) (λ (w : Work T). w.place < place_count (opening_at table).setup) o.works (λ w k. k.0)
        (all_found (λ o. IsSoundObject (opening_at table) s o) i s.live o found sound.objects).works) id (object_of s.live id) refl

    since_none : trustee.since.items ≡ []
    since_none = nothing_since kind (place_count (opening_at table).setup) (state_after kind (opening_at table) log) trustee.since.items works legal_parts.1 home.1.current.only

    pub done_is : done_by (plain_theory kind) trustee ≡ log
    done_is = ap (λ es. log ++ es) since_none ∙ append-nil log

    -- nothing that was asked of a greater trustee lacks its reply
    pub all_told : (u : ℕ) → t < u → length (replies_of kind (opening_at table) u log) ≡ length (asks_of (opening_at table).setup u log)
    all_told u lt =
        let opening = opening_at table in
        let above : opening.setup.number < u = let e = home.1.number in let (own, ready) = are.trustees t trustee of in omega (arith, lt, e, own) in
        let awaited = subst (λ done. AreAwaited kind opening done) done_is home.1.awaited in
        let enough = awaited.enough u above in
        let pending = pending_none (works_at (state_after kind opening log)) (λ a w. (w.ticket ≡ a.ticket) × IsAskAt opening.setup u w.awaits) (pending_of kind opening u log) works (awaited.asked u above) in
        let few = dropped_all (length (replies_of kind opening u log)) (asks_of opening.setup u log) pending in
        omega (arith, enough, few)

    -- it has run all that a client sent, and what the client has seen is a front of its log
    pub lane_ran : (c : ℕ) (lane : OneLane V C O R T) → HasLane turns c t lane → (ran c log ≡ (client_at lane.side).sent) × IsPrefix (client_at lane.side).seen log
    lane_ran c lane has =
        let below = client_below kind config first turns c t has.client lane are has.of_client has.of_lane in
        let count = home.0.of_table.good.places in
        let slot = slot_of (core_at table) c in
        let shows = lane_shows kind config first turns are t c table lane at has in
        let idle = lane_idle c t lane has in
        let good = home.0.of_table.good.slots.slots c (omega (arith, below, places, count)) in
        let sent : (client_at lane.side).sent ≡ slot.sent = ap (λ (v : ClientView V O R T). v.sent) shows in
        let out : asks_in (out_requests (batch_out slot.box slot.sent)) ≡ [] = ap (λ (v : ClientView V O R T). asks_in (out_requests v.out)) (sym shows) ∙ idle.out in
        let all = all_run kind (opening_at table) slot.box slot c (core_at table).log out (ap has_bye (sym sent) ∙ idle.no_bye) good.agrees in (
          ap (ran c) (sym log_is) ∙ all ∙ sym sent,
          subst (λ l. IsPrefix l log) (ap (λ (v : ClientView V O R T). v.seen) (sym shows)) (subst (λ l. IsPrefix slot.seen l) log_is good.seen.prefix),
        )

    -- the place of a lower trustee, whose side above at `i` is of this table
    module _ (u i : ℕ) (lower : OneTrustee V O R T) (side : PlainClient V O R T) (of_lower : slice_get turns.trustees.items u ≡ Some lower)
        (of_side : slice_get lower.above.items i ≡ Some side) (number : u + 1 + i ≡ t) where
      abbrev pub place : ℕ
      place = config.clients + u

      seat : SeatAt kind turns t place
      seat = record {
        number = u;
        index = i;
        trustee = lower;
        seat = side;
        of_trustee = of_lower;
        of_seat = of_side;
        of_place = let clients = are.as_many_clients in omega (arith, clients);
        of_table = number;
      }

      shows : client_at side ≡ client_of place (slot_of (core_at table) place)
      unfolding seat
      shows = seat_shows kind config first turns are t place table at seat

      in_range : place < length (core_at table).slots
      in_range = let count = home.0.of_table.good.places in let many = places in omega (arith, count, many, number)

      good_place : IsGoodSlot mark_of (batches kind (opening_at table)) (IsLegal kind (opening_at table)) (core_at table).log place (slot_of (core_at table) place)
      good_place = home.0.of_table.good.slots.slots place in_range

      -- what it has run of it is a front of what was sent to it
      pub front : IsPrefix (ran place log) (client_at side).sent
      front =
          let slot = slot_of (core_at table) place in
          subst (λ l. IsPrefix (ran place log) l) (ap (λ (v : ClientView V O R T). v.sent) (sym shows))
          (subst (λ l. IsPrefix (ran place l) slot.sent) log_is (ran_front kind (opening_at table) slot.box slot place (core_at table).log good_place.agrees))

      pub seen_front : IsPrefix (client_at side).seen log
      seen_front =
          let slot = slot_of (core_at table) place in
          subst (λ l. IsPrefix l log) (ap (λ (v : ClientView V O R T). v.seen) (sym shows)) (subst (λ l. IsPrefix slot.seen l) log_is good_place.seen.prefix)

      -- what was told of it are the first answers to its place
      pub told_front : IsTied kind (opening_of u config first) (trustee_at lower.side).log t (client_at side) → IsPrefix (map (λ r. Replied r.reply) (replies_of kind (opening_of u config first) t (trustee_at lower.side).log)) (answered place log)
      told_front tied =
          let here : (client_at side).place ≡ place = ap (λ (v : ClientView V O R T). v.place) shows in
          let (more, told) = tied.replies in
          let (rest, seen) = seen_front in (
            more ++ answered place rest,
            ap (answered place) seen ∙ answered-append place (client_at side).seen rest
                ∙ ap (λ l. l ++ answered place rest) (ap (λ p. answered p (client_at side).seen) (sym here) ∙ told)
                ∙ append_assoc (map (λ r. Replied r.reply) (replies_of kind (opening_of u config first) t (trustee_at lower.side).log)) more (answered place rest),
          )

  -- the table of a trustee
  table_of : (t : ℕ) (trustee : OneTrustee V O R T) → slice_get turns.trustees.items t ≡ Some trustee
      → (table : PlainTable V O R T) × (slice_get turns.tables.items t ≡ Some table) × (opening_at table ≡ opening_of t config first)
  table_of t trustee of =
      let trustees = are.as_many_trustees in
      let tables = are.as_many_tables in
      let lt = slice_get_within turns.trustees.items t trustee of in
      let (table, at) = element_at turns.tables.items t (omega (arith, lt, trustees, tables)) in
      (table, at, are.tables t table at)

  told_at : (u t : ℕ) (lower : OneTrustee V O R T) → slice_get turns.trustees.items u ≡ Some lower → u < t
      → length (replies_of kind (opening_of u config first) t (trustee_at lower.side).log)
      ≡ length (asks_of (opening_of {V = V} {O = O} {R = R} {T = T} u config first).setup t (trustee_at lower.side).log)
  told_at u t lower of lt =
      let (table, at, opened) = table_of u lower of in
      subst (λ (o : State V O R T). length (replies_of kind o t (trustee_at lower.side).log) ≡ length (asks_of o.setup t (trustee_at lower.side).log)) opened
      (all_told u lower table of at t lt)

  -- what a trustee has run of a lower one
  nested_at :
      (t : ℕ) (trustee : OneTrustee V O R T) (table : PlainTable V O R T) → slice_get turns.trustees.items t ≡ Some trustee → slice_get turns.tables.items t ≡ Some table
      → (u : ℕ) (lower : OneTrustee V O R T) → u < t → slice_get turns.trustees.items u ≡ Some lower
      → (runs_for (config.clients + u) (trustee_at trustee.side).log
      ≡ asks_told (asks_of (opening_of {V = V} {O = O} {R = R} {T = T} u config first).setup t (trustee_at lower.side).log) (replies_of kind (opening_of u config first) t (trustee_at lower.side).log))
      × AllByRecursion IsOfTrustee (ran (config.clients + u) (trustee_at trustee.side).log)
  nested_at t trustee table of at u lower lt of_lower =
      let (own, at_own, opened) = table_of u lower of_lower in
      let (number, ready) = are.trustees u lower of_lower in
      let tables = are.as_many_tables in
      let trustees = are.as_many_trustees in
      let t_lt = slice_get_within turns.trustees.items t trustee of in
      let seats = ready.above.as_many in
      let i : ℕ = t - (u + 1) in
      let (side, of_side) = element_at lower.above.items i (omega (arith, lt, t_lt, number, seats, tables, trustees)) in
      let here : u + 1 + i ≡ t = omega (arith, lt) in
      let L : List (Entry V O R T) = (trustee_at trustee.side).log in
      let p : ℕ = config.clients + u in
      let tied_there : IsTied kind (opening_at own) (done_by (plain_theory kind) lower) (u + 1 + i) (client_at side) =
      all_tied C kind turns u i lower own side (config, first, are) of_lower at_own of_side in
      let tied : IsTied kind (opening_of u config first) (trustee_at lower.side).log t (client_at side) =
      subst (λ k. IsTied kind (opening_of u config first) (trustee_at lower.side).log k (client_at side)) here
      (subst (λ o. IsTied kind o (trustee_at lower.side).log (u + 1 + i) (client_at side)) opened
      (subst (λ d. IsTied kind (opening_at own) d (u + 1 + i) (client_at side)) (done_is u lower own of_lower at_own) tied_there)) in
      let (rest, whole) = front t trustee table of at u i lower side of_lower of_side here in (
        runs_are p L
            ∙ runs_told (ran p L) (client_at side).sent (answered p L) (asks_of (opening_of {V = V} {O = O} {R = R} {T = T} u config first).setup t (trustee_at lower.side).log)
            (replies_of kind (opening_of u config first) t (trustee_at lower.side).log) (rest, whole) tied.only tied.sent (as_many p L)
            (told_front t trustee table of at u i lower side of_lower of_side here tied) (told_at u t lower of_lower lt),
        all_front IsOfTrustee (ran p L) rest (subst (λ l. AllByRecursion IsOfTrustee l) whole tied.only),
      )

  pub idle_at : (t : ℕ) (trustee : OneTrustee V O R T) → slice_get turns.trustees.items t ≡ Some trustee → IsIdle kind config first turns t trustee
  idle_at t trustee of =
      let trustees = are.as_many_trustees in
      let tables = are.as_many_tables in
      let t_lt = slice_get_within turns.trustees.items t trustee of in
      let (table, at) = element_at turns.tables.items t (omega (arith, t_lt, trustees, tables)) in
      let opened = are.tables t table at in
      let L : List (Entry V O R T) = (trustee_at trustee.side).log in
      record {
        is_legal = subst (λ o. IsLegal kind o L) opened (legal_parts t trustee table of at).0;
        works = subst (λ o. NoneWorks (state_after kind o L)) opened (works t trustee table of at);
        ran_all = λ c lane has. (lane_ran t trustee table of at c lane has).0;
        seen = λ c lane has. (lane_ran t trustee table of at c lane has).1;
        nested = λ u lower lt of_lower.
            let n = nested_at t trustee table of at u lower lt of_lower in n.0;
        told = λ u lower lt of_lower. told_at u t lower of_lower lt;
        only = λ u lt.
            let (lower, of_lower) = element_at turns.trustees.items u (omega (arith, lt, t_lt)) in
            (nested_at t trustee table of at u lower lt of_lower).1;
      }

pub rests_are_idle : {V O R T : Type 0} → (C : Type 0) (kind : Kind V O R T) → RestsAreIdle C kind
rests_are_idle C kind config first turns t trustee are none of = idle_at kind config first turns are none t trustee of
