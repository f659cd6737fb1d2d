-- After a round in which nothing moved all are at rest.
use Rattle.std.proofs.Common.{◌≡◌, ℕ, zero, suc, ◌+◌, ◌<◌, inl, inr, false, List, [], ◌∷◌, length, map, slice_index_or, refl, sym, ◌∙◌, ap, subst, arith}
use Rattle.std.specs.Prelude.{slice_get}
use Rattle.std.specs.declared.option.Option.TheVariants.{None, Some}
use Rattle.std.proofs.lemmas.Option.{slice_get_within}
use Rattle.tm_seq.specs.Kind.{Kind}
use Rattle.tm_batch.specs.declared.config.Config.{Config}
use Rattle.tm_batch.specs.declared.config.First.{First}
use Rattle.tm_model.specs.declared.entry.Entry.{Entry}
use Rattle.tm_model.specs.declared.entry.Entry.TheVariants.{By, Resume, Sent}
use Rattle.tm_model.specs.State.{State, place_of, place_count}
use Rattle.tm_model.specs.Serve.{state_after}
use Rattle.tm_model.specs.Entries.{AreResumes}
use Rattle.tm_model.specs.Ran.{ran}
use Rattle.tm_model.specs.Holds.{launches_in, ended_in, unfinished}
use Rattle.tm_model.specs.Slots.{Empty, Asked, Taken, Answered, no_slot, slot_of, is_asked, is_answered}
use Rattle.tm_model.specs.Good.{FullBox, FullSlot, unserved, got_with}
use Rattle.tm_core.proofs.Joins.{state-append, legal_logs_join}
use Rattle.tm_core.proofs.LaunchLog.{log_launches}
use Rattle.tm_core.proofs.Ordered.{opening_ordered, log_ordered}
use Rattle.tm_pair.specs.Views.{ClientView, TrusteeView, hand_of}
use Rattle.tm_pair.specs.SideViews.{batch_out, hand_in}
use Rattle.tm_pair.specs.Plain.{opening_at, core_at, client_at, trustee_at, plain_theory}
use Rattle.tm_pair.specs.declared.plain.PlainTable.{PlainTable}
use Rattle.tm_pair.specs.declared.plain.PlainClient.{PlainClient}
use Rattle.tm_trustee.specs.Above.{IsAt}
use Rattle.tm_trustee.specs.Serving.{done_by, ups_of}
use Rattle.tm_trustee.specs.declared.stage.Stage.TheVariants.{Over}
use Rattle.tm_trustee.proofs.Elements.{element_at, mapped, mapped_from}
use Rattle.tm_trustee.proofs.TurningReady.{own_table, at_home}
use Rattle.tm_turns.specs.Whole.{OneLane, OneTrustee, HasLane, AreOf}
use Rattle.tm_turns.specs.Going.{GoesRound}
use Rattle.tm_turns.specs.Resting.{IsLaneAtRest, AreAtRest}
use Rattle.tm_turns.specs.declared.turns.Turns.{Turns}
use Rattle.tm_turns.proofs.Light.{pending}
use Rattle.tm_turns.proofs.Pendings.{none_pending}
use Rattle.tm_turns.proofs.Quiet.{box_in}
use Rattle.tm_turns.proofs.Rest.{all_from}
use Rattle.tm_turns.proofs.Facts.{lane_fact, trustee_fact}
use Rattle.tm_turns.proofs.Seated.{SeatAt, side_at, lane_shows, seat_shows, home_at, table_below, places_are}
use Rattle.tm_turns.proofs.TurnKeeps.{client_below}
use Rattle.tm_turns.proofs.Unlaunched.{launches_none}
use Rattle.tm_turns.proofs.Weights.{pending_at}

module _ {V O R T : Type 0} where
  -- resumes run nothing of a place
  resumes_ran : (c : ℕ) (es : List (Entry V O R T)) → AreResumes es → ran c es ≡ []
  resumes_ran c [] only = refl
  resumes_ran c (Resume id ticket event next ∷ es) only = resumes_ran c es only
  resumes_ran c (By d k q a ∷ es) only = absurd only
  resumes_ran c (Sent d room ∷ es) only = absurd only

  -- a box of which nothing waits for anyone
  only_empty : (box : FullBox V O R T) → is_asked box ≡ false → is_answered box ≡ false → hand_in box ≡ None → box ≡ Empty
  only_empty Empty unasked unanswered free = refl
  only_empty (Asked b room) unasked unanswered free = absurd cc
  only_empty (Taken b room) unasked unanswered free = absurd cc
  only_empty (Answered a upto room) unasked unanswered free = absurd cc

  pub hand_at :
      (slots : List (FullSlot V O R T)) (c : ℕ)
      → slice_index_or (map (λ slot. hand_in slot.box) slots) c None ≡ hand_in (slice_index_or slots c no_slot).box
  hand_at [] c = refl
  hand_at (s ∷ slots) zero = refl
  hand_at (s ∷ slots) (suc c) = hand_at slots c

module _ {V C O R T : Type 0} (kind : Kind V O R T) (config : Config) (first : List (First V)) (last new : Turns V C O R T)
    (are : AreOf kind config first last) (are_new : AreOf kind config first new) (round : GoesRound kind 0 last new) where
  -- every box is empty
  pub empties :
      (t c : ℕ) (table : PlainTable V O R T) → slice_get new.tables.items t ≡ Some table → c < place_count (opening_at table).setup → box_in c table ≡ Empty
  empties t c table at lt =
      let within = table_below kind config first new are_new t table at in
      let trustees = are_new.as_many_trustees in
      let (trustee, of) = element_at new.trustees.items t (omega (arith, within, trustees)) in
      let fact = trustee_fact kind config first last new are are_new round t table trustee at of in
      let (mine, serving) = home_at kind config first new are_new t table trustee at of in
      let free : hand_in (box_in c table) ≡ None =
      sym (hand_at (core_at table).slots c) ∙ ap (λ (v : TrusteeView V O R T). hand_of v c) (sym mine.view) ∙ serving.free c in
      let unanswered : is_answered (box_in c table) ≡ false =
      elim (side_at kind config first new are_new t c table at lt) [
        | inl l ↦ let (lane, has) = l in (lane_fact kind config first last new are are_new round c t table lane at has).unanswered
        | inr s ↦
            let trustees = are_new.as_many_tables in
            let u_lt = slice_get_within new.trustees.items s.number s.trustee s.of_trustee in
            let many = are_new.as_many_trustees in
            let (own, at_own) = element_at new.tables.items s.number (omega (arith, u_lt, many, trustees)) in
            let below = trustee_fact kind config first last new are are_new round s.number own s.trustee at_own s.of_trustee in
            below.unanswered s.index c s.seat table s.of_seat (subst (λ k. slice_get new.tables.items k ≡ Some table) (sym s.of_table) at) s.of_place
      ] in
      only_empty (box_in c table) (fact.unasked c lt) unanswered free

  lane_rests : (c t : ℕ) (lane : OneLane V C O R T) → HasLane new c t lane → IsLaneAtRest kind lane
  lane_rests c t lane has =
      let (number, many, ok) = are_new.clients c has.client has.of_client in
      let within = slice_get_within has.client.books.lanes.items t lane has.of_lane in
      let tables = are_new.as_many_tables in
      let (table, at) = element_at new.tables.items t (omega (arith, within, many, tables)) in
      let below = client_below kind config first new c t has.client lane are_new has.of_client has.of_lane in
      let places = places_are kind config first new are_new t table at in
      let empty = empties t c table at (omega (arith, below, places)) in
      let (waits, no_bye, no_fetch) = (lane_fact kind config first last new are are_new round c t table lane at has).due empty in
      let shows = lane_shows kind config first new are_new t c table lane at has in
      let slot = slot_of (core_at table) c in
      record {
        waits = waits;
        no_bye = no_bye;
        no_fetch = no_fetch;
        out = ap (λ (v : ClientView V O R T). v.out) shows ∙ ap (λ (b : FullBox V O R T). batch_out b slot.sent) empty;
      }

  seat_rests :
      (t i : ℕ) (trustee : OneTrustee V O R T) (seat : PlainClient V O R T) → slice_get new.trustees.items t ≡ Some trustee
      → slice_get trustee.above.items i ≡ Some seat → (client_at seat).out ≡ None
  seat_rests t i trustee seat of e =
      let (number, ready) = are_new.trustees t trustee of in
      let seats = ready.above.as_many in
      let within = slice_get_within trustee.above.items i seat e in
      let (table, at) = element_at new.tables.items (t + 1 + i) (omega (arith, number, seats, within)) in
      let c : ℕ = length new.clients.items + t in
      let s : SeatAt kind new (t + 1 + i) c =
      record { number = t; index = i; trustee = trustee; seat = seat; of_trustee = of; of_seat = e; of_place = refl; of_table = refl } in
      let places = places_are kind config first new are_new (t + 1 + i) table at in
      let clients = are_new.as_many_clients in
      let empty = empties (t + 1 + i) c table at (omega (arith, places, clients)) in
      let shows = seat_shows kind config first new are_new (t + 1 + i) c table at s in
      let slot = slot_of (core_at table) c in
      ap (λ (v : ClientView V O R T). v.out) shows ∙ ap (λ (b : FullBox V O R T). batch_out b slot.sent) empty

  -- no launch of a place is pending
  none_pends :
      (t c : ℕ) (table : PlainTable V O R T) → slice_get new.tables.items t ≡ Some table → c < place_count (opening_at table).setup
      → pending (slot_of (core_at table) c).sent (slot_of (core_at table) c).got ≡ 0
  none_pends t c table at lt =
      elim (side_at kind config first new are_new t c table at lt) [
        | inl (lane, has) ↦
            let rests = lane_rests c t lane has in
            let none = none_pending kind config first new c t lane are_new has rests.out rests.waits rests.no_bye rests.no_fetch in
            ap (λ (v : ClientView V O R T). pending_at v) (sym (lane_shows kind config first new are_new t c table lane at has)) ∙ none
        | inr s ↦
            let (number, ready) = are_new.trustees s.number s.trustee s.of_trustee in
            let (own, at_own) = own_table (plain_theory kind) kind new.tables.items s.trustee ready in
            let home = at_home (plain_theory kind) kind new.tables.items s.trustee own ready at_own in
            let asked = home.1.above.asked s.index (client_at s.seat)
            (mapped (λ (side : PlainClient V O R T). client_at side) s.trustee.above.items s.index s.seat s.of_seat) in
            let none : launches_in (slot_of (core_at table) c).sent ≡ 0 =
            ap (λ (v : ClientView V O R T). launches_in v.sent) (sym (seat_shows kind config first new are_new t c table at s)) ∙ launches_none (client_at s.seat).sent asked in
            omega (arith, none)
      ]

  -- so none is unfinished
  works_rest :
      (t c : ℕ) (trustee : OneTrustee V O R T) (table : PlainTable V O R T) → slice_get new.trustees.items t ≡ Some trustee
      → slice_get new.tables.items t ≡ Some table → c < place_count (opening_at table).setup
      → unfinished c (state_after kind (opening_at table) (done_by (plain_theory kind) trustee)).live ≡ 0
  works_rest t c trustee table of at lt =
      let (mine, serving) = home_at kind config first new are_new t table trustee at of in
      let opening = opening_at table in
      let n = place_count opening.setup in
      let log = (trustee_at trustee.side).log in
      let since = trustee.since.items in
      let s = state_after kind opening log in
      let slot = slot_of (core_at table) c in
      let empty : slot.box ≡ Empty = empties t c table at lt in
      let places = mine.of_table.good.places in
      let launches = (mine.of_table.good.accounts c (omega (arith, places, lt))).launches in
      let not_run = ap (λ (b : FullBox V O R T). launches_in (unserved b)) empty in
      let ended = ap (λ (b : FullBox V O R T). ended_in (got_with b slot.got)) empty in
      let none = none_pends t c table at lt in
      let log_is : (core_at table).log ≡ log = ap (λ (v : TrusteeView V O R T). v.log) (sym mine.view) in
      let u_is = ap (λ l. unfinished c (state_after kind opening l).live) log_is in
      let r_is = ap (λ l. length (place_of (state_after kind opening l) c).ready) log_is in
      let represents = serving.current.represents in
      let (before, behind) = (legal_logs_join kind opening log since).0 represents.is_legal in
      let ordered = log_ordered kind n opening log before (opening_ordered opening represents.opens) in
      let flow = log_launches kind n c lt 0 [] s since ordered behind in
      let ran_none = ap launches_in (resumes_ran c since serving.current.only) in
      let done = ap (λ (x : State V O R T). unfinished c x.live) (state-append kind opening log since) in
      omega (arith, launches, not_run, ended, none, u_is, r_is, flow, ran_none, done)

  pub at_rest : AreAtRest kind new
  at_rest = record {
    lanes = lane_rests;
    seats = seat_rests;
    works = works_rest;
    ended = λ t trustee table of at ended.
        let fact = trustee_fact kind config first last new are are_new round t table trustee at of in
        record {
          below = ended;
          above = all_from (IsAt Over) (ups_of (plain_theory kind) trustee)
              (λ i up e.
              let (seat, e_seat, is) = mapped_from (λ (side : PlainClient V O R T). client_at side) trustee.above.items i up e in
              subst (λ v. IsAt Over v) (sym is) (fact.said i seat e_seat ended, seat_rests t i trustee seat of e_seat));
        };
  }
