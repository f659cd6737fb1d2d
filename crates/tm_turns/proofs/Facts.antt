-- What the turns of one round tell, in which nothing moved: of each lane, and of each trustee.
use Rattle.std.proofs.Common.{◌≡◌, ◌≢◌, ℕ, ◌+◌, ◌<◌, ◌⊎◌, inl, inr, true, false, List, [], length, refl, sym, ◌∙◌, ap, subst, arith}
use Rattle.std.specs.Prelude.{slice_get}
use Rattle.std.specs.List.{range_with_len}
use Rattle.std.specs.declared.option.Option.TheVariants.{None, Some}
use Rattle.std.proofs.lemmas.List.FromFn.{get_or-range_with_len, length-range_with_len}
use Rattle.std.proofs.lemmas.Option.{slice_get_within, slice_get-get_or}
use Rattle.tm_seq.specs.Kind.{Kind}
use Rattle.tm_batch.specs.declared.config.Config.{Config}
use Rattle.tm_batch.specs.declared.config.First.{First}
use Rattle.tm_batch.specs.declared.message.Request.{Request}
use Rattle.tm_model.specs.State.{place_count}
use Rattle.tm_model.specs.Slots.{Empty, Asked, Taken, Answered, slot_of, is_asked, is_answered}
use Rattle.tm_model.specs.Good.{FullBox}
use Rattle.tm_model.specs.Holds.{has_bye}
use Rattle.tm_pair.specs.Views.{BatchView, ClientView}
use Rattle.tm_pair.specs.SideViews.{batch_out}
use Rattle.tm_pair.specs.Plain.{opening_at, core_at, client_at, trustee_at, plain_theory}
use Rattle.tm_pair.specs.declared.plain.PlainTable.{PlainTable}
use Rattle.tm_pair.specs.declared.plain.PlainClient.{PlainClient}
use Rattle.tm_state.specs.Asking.{HaveAllEnded}
use Rattle.tm_trustee.specs.declared.served.Served.{Served}
use Rattle.tm_trustee.proofs.Elements.{element_at, there_too, mapped, mapped_from}
use Rattle.tm_client.specs.Turns.{IsByeDue, IsFetchDue}
use Rattle.tm_client.specs.declared.answers.Turn.{Turn}
use Rattle.tm_client.specs.declared.answers.Turn.TheVariants.{Sent, Pending, Got, Idle}
use Rattle.tm_turns.specs.Whole.{OneLane, OneTrustee, HasLane, AreOf}
use Rattle.tm_turns.specs.Going.{has_moved, TurnsAt, ServesAt, Goes, GoesRound}
use Rattle.tm_turns.specs.declared.turns.Turns.{Turns}
use Rattle.tm_turns.proofs.Quiet.{at_some, marks, marks_at, marks_of, flat, box_in, notes, Marks, Notes, Still, still_on}
use Rattle.tm_turns.proofs.QuietServed.{parts, seat_stays}
use Rattle.tm_turns.proofs.Rest.{some_is, lt_false, GoneAt, gone_at, turn_within}
use Rattle.tm_turns.proofs.Seated.{SeatAt, lane_shows, seat_mine, places_are, table_below}
use Rattle.tm_turns.proofs.TurnKeeps.{client_below}

range_at : (n k : ℕ) → k < n → slice_get (range_with_len 0 n) k ≡ Some k
range_at n k lt =
    let within : k < length (range_with_len 0 n) = subst (λ m. k < m) (sym (length-range_with_len 0 n)) lt in
    let is : 0 + k ≡ k = omega arith in
    slice_get-get_or (range_with_len 0 n) k 0 within ∙ ap (λ m. Some m) (get_or-range_with_len 0 n k 0 lt ∙ is)

module _ {V C O R T : Type 0} where
  -- a Bye is due by the marks of a lane, and a fetch is
  abbrev ByeDueOf : Marks V C O R T → Type 0
  ByeDueOf m = (m.waits ≡ []) × (m.closing ≡ true) × (has_bye m.sent ≡ false) × (m.counting ≡ 0)

  abbrev FetchDueOf : Marks V C O R T → Type 0
  FetchDueOf m = (m.waits ≡ []) × (¬ (ByeDueOf m)) × (has_bye m.sent ≡ false) × ((m.fetching ≡ true) ⊎ (m.launched ≢ []))

  abbrev NothingDueOf : Marks V C O R T → Type 0
  NothingDueOf m = (m.waits ≡ []) × (¬ (ByeDueOf m)) × (¬ (FetchDueOf m))

module _ {V O R T : Type 0} where
  free_box : (box : FullBox V O R T) (sent : List (Request V O R T)) (batch : BatchView V O R T) → batch_out box sent ≡ Some batch → box ≡ Empty → ⊥
  free_box box sent batch out empty =
      let none : batch_out box sent ≡ None = ap (λ (b : FullBox V O R T). batch_out b sent) empty in cc

  free_answers : (box : FullBox V O R T) (sent : List (Request V O R T)) → batch_out box sent ≡ None → is_answered box ≡ false
  free_answers Empty sent e = refl
  free_answers (Asked b room) sent e = refl
  free_answers (Taken b room) sent e = refl
  free_answers (Answered a upto room) sent e = absurd cc

  -- what a side asked
  abbrev sent_of : PlainClient V O R T → List (Request V O R T)
  sent_of side = (client_at side).sent

module _ {V C O R T : Type 0} (kind : Kind V O R T) where
  -- a lane, and the box of its place
  pub record LaneFact (box : FullBox V O R T) (lane : OneLane V C O R T) : Type 0 where
    pub unanswered : is_answered box ≡ false
    pub due : box ≡ Empty → (lane.waits.items ≡ []) × (¬ (IsByeDue (plain_theory kind) lane)) × (¬ (IsFetchDue (plain_theory kind) lane))

  module _ (config : Config) (first : List (First V)) (c t : ℕ) (new : Turns V C O R T) (table : PlainTable V O R T) (lane : OneLane V C O R T)
      (at : slice_get new.tables.items t ≡ Some table) (has : HasLane new c t lane) where
    lane_told :
        (answer : Turn) (begins ends : Turns V C O R T) (is : TurnsAt kind c t answer begins ends) → has_moved answer ≡ false
        → AreOf kind config first begins → Still begins new → LaneFact (box_in c table) lane
    lane_told (Sent n) begins ends is none are still = absurd cc
    lane_told (Got n) begins ends is none are still = absurd cc
    lane_told Pending begins ends is none are still =
        let there : HasLane begins c t is.turned.lane = record { client = is.client; of_client = is.of_client; of_lane = is.turned.turns.of_lane } in
        let shows = lane_shows kind config first begins are t c is.was is.turned.lane is.of_table there in
        let looked = is.turned.tells in
        let (batch, out, out_now) = looked.pending.out in
        let place : (client_at is.turned.lane.side).place ≡ c = ap (λ (v : ClientView V O R T). v.place) shows in
        let box : box_in c table ≡ box_in c is.was =
        some_is (box_in c table) (box_in c is.was)
        (ap (λ o. at_some (box_in c) o) (sym at) ∙ still.boxes t c ∙ ap (λ o. at_some (box_in c) o) is.of_table) in
        let slot = slot_of (core_at is.was) c in
        let is_out : batch_out slot.box slot.sent ≡ Some batch = ap (λ (v : ClientView V O R T). v.out) (sym shows) ∙ out in
        record {
          unanswered = ap (λ b. is_answered b) box
              ∙ subst (λ k. is_answered (box_in k is.was) ≡ false) place looked.did.may;
          due = λ empty. absurd (free_box (box_in c is.was) slot.sent batch is_out (sym box ∙ empty));
        }
    lane_told Idle begins ends is none are still =
        let there : HasLane begins c t is.turned.lane = record { client = is.client; of_client = is.of_client; of_lane = is.turned.turns.of_lane } in
        let shows = lane_shows kind config first begins are t c is.was is.turned.lane is.of_table there in
        let nothing = is.turned.tells in
        let box : box_in c table ≡ box_in c is.was =
        some_is (box_in c table) (box_in c is.was)
        (ap (λ o. at_some (box_in c) o) (sym at) ∙ still.boxes t c ∙ ap (λ o. at_some (box_in c) o) is.of_table) in
        let slot = slot_of (core_at is.was) c in
        let is_free : batch_out slot.box slot.sent ≡ None = ap (λ (v : ClientView V O R T). v.out) (sym shows) ∙ nothing.free in
        let now : marks_at new c t ≡ Some (marks lane) =
        ap (λ o. flat (at_some (marks_of t) o)) has.of_client ∙ ap (λ o. at_some marks o) has.of_lane in
        let before : marks_at begins c t ≡ Some (marks is.turned.lane) =
        ap (λ o. flat (at_some (marks_of t) o)) is.of_client ∙ ap (λ o. at_some marks o) is.turned.turns.of_lane in
        let same : marks is.turned.lane ≡ marks lane = some_is (marks is.turned.lane) (marks lane) (sym before ∙ sym (still.lanes c t) ∙ now) in
        let due : NothingDueOf (marks is.turned.lane) = (nothing.waits, nothing.no_bye, nothing.no_fetch) in
        record {
          unanswered = ap (λ b. is_answered b) box ∙ free_answers slot.box slot.sent is_free;
          due = λ empty. subst (λ m. NothingDueOf m) same due;
        }

  -- a trustee, its table, and its sides above
  pub record TrusteeFact (t : ℕ) (new : Turns V C O R T) (table : PlainTable V O R T) (trustee : OneTrustee V O R T) : Type 0 where
    pub unasked : (c : ℕ) → c < place_count (opening_at table).setup → is_asked (box_in c table) ≡ false
    pub unanswered : (i c : ℕ) (seat : PlainClient V O R T) (upper : PlainTable V O R T) → slice_get trustee.above.items i ≡ Some seat
        → slice_get new.tables.items (t + 1 + i) ≡ Some upper → c ≡ length new.clients.items + t → is_answered (box_in c upper) ≡ false
    pub said : (i : ℕ) (seat : PlainClient V O R T) → slice_get trustee.above.items i ≡ Some seat
        → HaveAllEnded (opening_at table) (trustee_at trustee.side).log → has_bye (client_at seat).sent ≡ true

  module _ (config : Config) (first : List (First V)) (t : ℕ) (served : Served) (begins ends new : Turns V C O R T) (is : ServesAt kind t served begins ends)
      (none : is.becomes.moved ≡ 0) (are : AreOf kind config first begins) (are_new : AreOf kind config first new) (still : Still begins new)
      (table : PlainTable V O R T) (trustee : OneTrustee V O R T) (at : slice_get new.tables.items t ≡ Some table)
      (of : slice_get new.trustees.items t ≡ Some trustee) where
    same_notes : notes trustee ≡ notes is.trustee
    same_notes =
        some_is (notes trustee) (notes is.trustee)
        (ap (λ o. at_some notes o) (sym of) ∙ still.trustees t ∙ ap (λ o. at_some notes o) is.of_trustee)

    same_box :
        (k c : ℕ) (x y : PlainTable V O R T) → slice_get new.tables.items k ≡ Some x → slice_get begins.tables.items k ≡ Some y → box_in c x ≡ box_in c y
    same_box k c x y ex ey =
        some_is (box_in c x) (box_in c y) (ap (λ o. at_some (box_in c) o) (sym ex) ∙ still.boxes k c ∙ ap (λ o. at_some (box_in c) o) ey)

    -- the seat of before
    seat_before :
        (i : ℕ) (seat : PlainClient V O R T) → slice_get trustee.above.items i ≡ Some seat
        → (before : PlainClient V O R T) × (slice_get is.trustee.above.items i ≡ Some before) × (sent_of seat ≡ sent_of before)
    seat_before i seat e =
        mapped_from sent_of is.trustee.above.items i (sent_of seat)
        (subst (λ (n : Notes V O R T). slice_get n.sent i ≡ Some (sent_of seat)) same_notes (mapped sent_of trustee.above.items i seat e))

    pub trustee_told : TrusteeFact t new table trustee
    trustee_told =
        let p = parts kind t served begins ends is config first are none in
        let places_now = places_are kind config first new are_new t table at in
        let places_was = places_are kind config first begins are t p.was p.at_was in
        let same_log : (trustee_at trustee.side).log ≡ (trustee_at is.trustee.side).log = ap (λ (n : Notes V O R T). n.log) same_notes in
        let opening : opening_at table ≡ opening_at p.was = are_new.tables t table at ∙ sym (are.tables t p.was p.at_was) in
        record {
          unasked = λ c lt.
              ap (λ b. is_asked b) (same_box t c table p.was at p.at_was ∙ sym (p.stay.boxes c)) ∙ p.stay.none c (omega (arith, lt, places_now, places_was));
          unanswered = λ i c seat upper e up place.
              let (before, eb, sent) = seat_before i seat e in
              let (after, ea) = there_too is.trustee.above.items is.becomes.above.items i before p.many eb in
              let many = are.as_many_tables in
              let many_new = are_new.as_many_tables in
              let (x, ex) = there_too new.tables.items begins.tables.items (t + 1 + i) upper (many ∙ sym many_new) up in
              let (y, ey) = there_too begins.tables.items ends.tables.items (t + 1 + i) x p.tables ex in
              let stays = seat_stays kind t served begins ends is config first are none i x y before after ex ey eb ea in
              let seat_is : SeatAt kind begins (t + 1 + i) c =
              record {
                number = t;
                index = i;
                trustee = is.trustee;
                seat = before;
                of_trustee = is.of_trustee;
                of_seat = eb;
                of_place = place ∙ ap (λ n. n + t) (are_new.as_many_clients ∙ sym are.as_many_clients);
                of_table = refl;
              } in
              let (mine, its) = seat_mine kind config first begins are (t + 1 + i) c x ex seat_is in
              ap (λ b. is_answered b) (same_box (t + 1 + i) c upper x up ex) ∙ subst (λ k. is_answered (box_in k x) ≡ false) its stays.unanswered;
          said = λ i seat e ended.
              let (before, eb, sent) = seat_before i seat e in
              let (after, ea) = there_too is.trustee.above.items is.becomes.above.items i before p.many eb in
              let within = slice_get_within is.trustee.above.items i before eb in
              let seats = p.seats in
              let (x, ex) = element_at begins.tables.items (t + 1 + i) (omega (arith, within, seats)) in
              let (y, ey) = there_too begins.tables.items ends.tables.items (t + 1 + i) x p.tables ex in
              let stays = seat_stays kind t served begins ends is config first are none i x y before after ex ey eb ea in
              let log : (trustee_at trustee.side).log ≡ (trustee_at is.becomes.side).log = same_log ∙ sym p.stay.log in
              let all = subst (λ l. HaveAllEnded (opening_at p.was) l) log (subst (λ s. HaveAllEnded s (trustee_at trustee.side).log) opening ended) in
              ap (λ (qs : List (Request V O R T)). has_bye qs) (sent ∙ sym stays.sent) ∙ stays.said all;
        }

  module _ (config : Config) (first : List (First V)) (last new : Turns V C O R T) (are : AreOf kind config first last) (are_new : AreOf kind config first new)
      (round : GoesRound kind 0 last new) where
    -- the turn of a number in the round
    the_turn : (k : ℕ) → k < config.clients + config.trustees → GoneAt kind config first k last new
    the_turn k lt =
        let clients = are.as_many_clients in
        let trustees = are.as_many_trustees in
        gone_at kind config first (range_with_len 0 (length last.clients.items + length last.trustees.items)) k k 0 last new are round refl
        (range_at (length last.clients.items + length last.trustees.items) k (omega (arith, lt, clients, trustees)))

    lane_of :
        (c t : ℕ) (table : PlainTable V O R T) (lane : OneLane V C O R T) → c < config.clients → t < config.trustees → slice_get new.tables.items t ≡ Some table
        → HasLane new c t lane → (begins ends : Turns V C O R T) → AreOf kind config first begins → Still begins new → Still ends new
        → Goes kind c false begins ends → LaneFact (box_in c table) lane
    lane_of c t table lane below within at has begins ends its still then (inl client) =
        let tables = its.as_many_tables in
        let w = turn_within kind config first c (length begins.tables.items) t false begins ends its client.1 refl (omega (arith, within, tables)) in
        lane_told config first c t new table lane at has w.answer w.begins w.ends w.turns w.none w.are (still_on w.begins ends new w.still then)
    lane_of c t table lane below within at has begins ends its still then (inr (inl (u, is, lt, serves))) =
        let clients = its.as_many_clients in absurd (omega (arith, is, clients, below))
    lane_of c t table lane below within at has begins ends its still then (inr (inr (beyond, none, same))) =
        let clients = its.as_many_clients in absurd (omega (arith, beyond, clients, below))

    pub lane_fact :
        (c t : ℕ) (table : PlainTable V O R T) (lane : OneLane V C O R T) → slice_get new.tables.items t ≡ Some table → HasLane new c t lane
        → LaneFact (box_in c table) lane
    lane_fact c t table lane at has =
        let within = table_below kind config first new are_new t table at in
        let below = client_below kind config first new c t has.client lane are_new has.of_client has.of_lane in
        let g = the_turn c (omega (arith, below)) in
        lane_of c t table lane below within at has g.begins g.ends g.are g.still g.then g.goes

    trustee_by :
        (t : ℕ) (table : PlainTable V O R T) (trustee : OneTrustee V O R T) → slice_get new.tables.items t ≡ Some table
        → slice_get new.trustees.items t ≡ Some trustee → (begins ends : Turns V C O R T) → AreOf kind config first begins → Still begins new
        → (served : Served) (u : ℕ) (serves : ServesAt kind u served begins ends) → serves.becomes.moved ≡ 0 → u ≡ t → TrusteeFact t new table trustee
    trustee_by t table trustee at of begins ends its still served u serves none same =
        subst (λ k. TrusteeFact k new table trustee) same
        (
        trustee_told config first u served begins ends new serves none its are_new still table trustee
        (subst (λ k. slice_get new.tables.items k ≡ Some table) (sym same) at) (subst (λ k. slice_get new.trustees.items k ≡ Some trustee) (sym same) of)
        )

    trustee_of_turn :
        (t : ℕ) (table : PlainTable V O R T) (trustee : OneTrustee V O R T) → t < config.trustees → slice_get new.tables.items t ≡ Some table
        → slice_get new.trustees.items t ≡ Some trustee → (begins ends : Turns V C O R T) → AreOf kind config first begins → Still begins new
        → Goes kind (config.clients + t) false begins ends → TrusteeFact t new table trustee
    trustee_of_turn t table trustee within at of begins ends its still (inl client) =
        let clients = its.as_many_clients in let lt = client.0 in absurd (omega (arith, clients, lt))
    trustee_of_turn t table trustee within at of begins ends its still (inr (inl (u, is, lt, (served, serves, moved)))) =
        let clients = its.as_many_clients in
        let same : u ≡ t = omega (arith, is, clients) in
        trustee_by t table trustee at of begins ends its still served u serves (lt_false serves.becomes.moved moved) same
    trustee_of_turn t table trustee within at of begins ends its still (inr (inr (beyond, none, same))) =
        let clients = its.as_many_clients in let trustees = its.as_many_trustees in absurd (omega (arith, beyond, clients, trustees, within))

    pub trustee_fact :
        (t : ℕ) (table : PlainTable V O R T) (trustee : OneTrustee V O R T) → slice_get new.tables.items t ≡ Some table
        → slice_get new.trustees.items t ≡ Some trustee → TrusteeFact t new table trustee
    trustee_fact t table trustee at of =
        let within = table_below kind config first new are_new t table at in
        let g = the_turn (config.clients + t) (omega (arith, within)) in
        trustee_of_turn t table trustee within at of g.begins g.ends g.are g.still g.goes
