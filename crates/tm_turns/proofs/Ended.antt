-- Where nothing is out a trustee has run all that was sent to it; where each client has said Bye everywhere, every trustee has ended.
use Rattle.std.proofs.Common.{◌≡◌, ℕ, zero, suc, ◌+◌, ◌-◌, ◌<◌, inl, inr, true, List, [], ◌∷◌, ◌++◌, length, map, refl, sym, ◌∙◌, ap, subst, arith, append-nil}
use Rattle.std.specs.Prelude.{slice_get, All}
use Rattle.std.specs.declared.option.Option.TheVariants.{None, Some}
use Rattle.std.proofs.lemmas.Option.{slice_get_within, get_or_from_slice_get}
use Rattle.tm_seq.specs.Kind.{Kind}
use Rattle.tm_batch.specs.declared.config.Config.{Config}
use Rattle.tm_batch.specs.declared.config.First.{First}
use Rattle.tm_batch.specs.declared.message.Request.{Request}
use Rattle.tm_batch.specs.declared.message.Request.TheVariants.{Entrust, Apply, Launch, Grant, Release, Reclaim, Bye}
use Rattle.tm_model.specs.declared.entry.Entry.{Entry}
use Rattle.tm_model.specs.State.{State, place_count}
use Rattle.tm_model.specs.Slots.{Empty, Asked, Taken, Answered, slot_of}
use Rattle.tm_model.specs.Good.{FullBox, FullSlot}
use Rattle.tm_model.specs.GoodSlots.{Agrees}
use Rattle.tm_model.specs.Legal.{IsLegal}
use Rattle.tm_model.specs.Ran.{mark_of, ran}
use Rattle.tm_model.specs.Batches.{batches}
use Rattle.tm_model.specs.Holds.{has_bye}
use Rattle.tm_pair.specs.Views.{ClientView, TrusteeView}
use Rattle.tm_pair.specs.SideViews.{batch_out}
use Rattle.tm_pair.specs.Plain.{opening_at, core_at, client_at, trustee_at, plain_theory}
use Rattle.tm_pair.specs.declared.plain.PlainTable.{PlainTable}
use Rattle.tm_pair.specs.declared.plain.PlainClient.{PlainClient}
use Rattle.tm_trustee.specs.Above.{IsAt}
use Rattle.tm_trustee.specs.Lanes.{IsLane}
use Rattle.tm_trustee.specs.NestedAsks.{target, asks_of, asked_by}
use Rattle.tm_trustee.specs.Serving.{done_by, ups_of}
use Rattle.tm_trustee.specs.declared.lane.Lane.{Lane}
use Rattle.tm_trustee.specs.declared.stage.Stage.TheVariants.{Over}
use Rattle.tm_trustee.specs.Turn.{HasEnded}
use Rattle.tm_trustee.proofs.Elements.{element_at, there_as, mapped}
use Rattle.tm_client.specs.Lanes.{asks_in}
use Rattle.tm_turns.specs.Whole.{OneLane, OneTrustee, HasLane, AreOf}
use Rattle.tm_turns.specs.Resting.{AreAtRest}
use Rattle.tm_turns.specs.Closing.{HasRunAsks}
use Rattle.tm_turns.specs.declared.turns.Turns.{Turns}
use Rattle.tm_turns.proofs.Seated.{SeatAt, side_at, lane_shows, seat_shows, home_at, places_are}
use Rattle.tm_turns.proofs.TurnKeeps.{client_below}

all_at : {X : Type 0} (P : X → Type 0) (xs : List X) (i : ℕ) (x : X) → All P xs → slice_get xs i ≡ Some x → P x
all_at P xs i x all e = subst P (get_or_from_slice_get xs i x x e) (all i x (slice_get_within xs i x e))

module _ {V O R T : Type 0} where
  -- nothing follows a Bye
  abbrev pub IsLast : List (Request V O R T) → Type 0
  IsLast qs = (before after : List (Request V O R T)) → qs ≡ before ++ Bye ∷ after → after ≡ []

  later_last : (q : Request V O R T) (qs : List (Request V O R T)) → IsLast (q ∷ qs) → IsLast qs
  later_last q qs last before after e = last (q ∷ before) after (ap (λ xs. q ∷ xs) e)

  -- so requests with a Bye are those without it, and then the Bye
  pub bye_last : (qs : List (Request V O R T)) → has_bye qs ≡ true → IsLast qs → qs ≡ asks_in qs ++ Bye ∷ []
  bye_last [] said last = absurd cc
  bye_last (Bye ∷ qs) said last =
      let none : qs ≡ [] = last [] qs refl in
      ap (λ xs. Bye ∷ xs) none ∙ ap (λ xs. asks_in xs ++ Bye ∷ []) (sym none)
  bye_last (Entrust v ∷ qs) said last = ap (λ xs. Entrust v ∷ xs) (bye_last qs said (later_last (Entrust v) qs last))
  bye_last (Apply n op ∷ qs) said last = ap (λ xs. Apply n op ∷ xs) (bye_last qs said (later_last (Apply n op) qs last))
  bye_last (Launch n task ∷ qs) said last = ap (λ xs. Launch n task ∷ xs) (bye_last qs said (later_last (Launch n task) qs last))
  bye_last (Grant n d ∷ qs) said last = ap (λ xs. Grant n d ∷ xs) (bye_last qs said (later_last (Grant n d) qs last))
  bye_last (Release n ∷ qs) said last = ap (λ xs. Release n ∷ xs) (bye_last qs said (later_last (Release n) qs last))
  bye_last (Reclaim n ∷ qs) said last = ap (λ xs. Reclaim n ∷ xs) (bye_last qs said (later_last (Reclaim n) qs last))

  -- of a box of which nothing is out, all that was sent was run
  all_ran :
      (kind : Kind V O R T) (opening : State V O R T) (box : FullBox V O R T) (slot : FullSlot V O R T) (c : ℕ) (log : List (Entry V O R T))
      → batch_out box slot.sent ≡ None → Agrees mark_of (batches kind opening) (IsLegal kind opening) box slot c log → ran c log ≡ slot.sent
  all_ran kind opening Empty slot c log out agrees = sym agrees.1
  all_ran kind opening (Asked b room) slot c log out agrees = absurd cc
  all_ran kind opening (Taken b room) slot c log out agrees = absurd cc
  all_ran kind opening (Answered a upto room) slot c log out agrees = absurd cc

module _ {V C O R T : Type 0} (kind : Kind V O R T) (config : Config) (first : List (First V)) (turns : Turns V C O R T) (are : AreOf kind config first turns)
    (rest : AreAtRest kind turns) where
  -- at rest a trustee has run all that was sent to it
  lane_ran :
      (c t : ℕ) (lane : OneLane V C O R T) (trustee : OneTrustee V O R T) → HasLane turns c t lane → slice_get turns.trustees.items t ≡ Some trustee
      → ran c (trustee_at trustee.side).log ≡ (client_at lane.side).sent
  lane_ran c t lane trustee has of =
      let lt = slice_get_within turns.trustees.items t trustee of in
      let trustees = are.as_many_trustees in
      let tables = are.as_many_tables in
      let (table, at) = element_at turns.tables.items t (omega (arith, lt, trustees, tables)) in
      let (mine, serving) = home_at kind config first turns are t table trustee at of in
      let below = client_below kind config first turns c t has.client lane are has.of_client has.of_lane in
      let places = places_are kind config first turns are t table at in
      let count = mine.of_table.good.places in
      let slot = slot_of (core_at table) c in
      let shows = lane_shows kind config first turns are t c table lane at has in
      let out : batch_out slot.box slot.sent ≡ None = ap (λ (v : ClientView V O R T). v.out) (sym shows) ∙ (rest.lanes c t lane has).out in
      let good = mine.of_table.good.slots.slots c (omega (arith, below, places, count)) in
      ap (λ (v : TrusteeView V O R T). ran c v.log) mine.view
      ∙ all_ran kind (opening_at table) slot.box slot c (core_at table).log out good.agrees
      ∙ ap (λ (v : ClientView V O R T). v.sent) (sym shows)

  -- and the Bye is the last that a client sent
  lane_last : (c t : ℕ) (lane : OneLane V C O R T) → HasLane turns c t lane → IsLast (client_at lane.side).sent
  lane_last c t lane has =
      let (number, many, is) = are.clients c has.client has.of_client in
      let within = slice_get_within has.client.books.lanes.items t lane has.of_lane in
      let trustees = are.as_many_trustees in
      let tables = are.as_many_tables in
      let (table, at) = element_at turns.tables.items t (omega (arith, within, many, tables)) in
      let (trustee, of) = element_at turns.trustees.items t (omega (arith, within, many, trustees)) in
      let (mine, serving) = home_at kind config first turns are t table trustee at of in
      let below = client_below kind config first turns c t has.client lane are has.of_client has.of_lane in
      let places = places_are kind config first turns are t table at in
      let count = mine.of_table.good.places in
      let shows = lane_shows kind config first turns are t c table lane at has in
      let accounted = mine.of_table.good.accounts c (omega (arith, below, places, count)) in
      λ before after e. accounted.last before after (ap (λ (v : ClientView V O R T). v.sent) (sym shows) ∙ e)

  -- so where it said it, a trustee has run its requests and then its Bye
  pub lane_ran_all :
      (c t : ℕ) (lane : OneLane V C O R T) (trustee : OneTrustee V O R T) → HasLane turns c t lane → slice_get turns.trustees.items t ≡ Some trustee
      → has_bye (client_at lane.side).sent ≡ true → ran c (trustee_at trustee.side).log ≡ asks_in (client_at lane.side).sent ++ Bye ∷ []
  lane_ran_all c t lane trustee has of said =
      lane_ran c t lane trustee has of ∙ bye_last (client_at lane.side).sent said (lane_last c t lane has)

  -- and of a side above
  seat_ran :
      (t c : ℕ) (table : PlainTable V O R T) (trustee : OneTrustee V O R T) → slice_get turns.tables.items t ≡ Some table
      → slice_get turns.trustees.items t ≡ Some trustee → c < place_count (opening_at table).setup → (s : SeatAt kind turns t c)
      → ran c (trustee_at trustee.side).log ≡ (client_at s.seat).sent
  seat_ran t c table trustee at of below s =
      let (mine, serving) = home_at kind config first turns are t table trustee at of in
      let count = mine.of_table.good.places in
      let slot = slot_of (core_at table) c in
      let shows = seat_shows kind config first turns are t c table at s in
      let out : batch_out slot.box slot.sent ≡ None =
      ap (λ (v : ClientView V O R T). v.out) (sym shows) ∙ rest.seats s.number s.index s.trustee s.seat s.of_trustee s.of_seat in
      let good = mine.of_table.good.slots.slots c (omega (arith, below, count)) in
      ap (λ (v : TrusteeView V O R T). ran c v.log) mine.view
      ∙ all_ran kind (opening_at table) slot.box slot c (core_at table).log out good.agrees
      ∙ ap (λ (v : ClientView V O R T). v.sent) (sym shows)

  -- where each client has said Bye everywhere, every trustee has ended
  module _ (said : (c t : ℕ) (lane : OneLane V C O R T) → HasLane turns c t lane → has_bye (client_at lane.side).sent ≡ true) where
    pub ended_below :
        (n t : ℕ) (trustee : OneTrustee V O R T) (table : PlainTable V O R T) → t < n → slice_get turns.trustees.items t ≡ Some trustee
        → slice_get turns.tables.items t ≡ Some table → HasEnded (opening_at table) (trustee_at trustee.side) (ups_of (plain_theory kind) trustee)
    ended_below zero t trustee table lt of at = absurd (omega (arith, lt))
    ended_below (suc n) t trustee table lt of at =
        rest.ended t trustee table of at
        (λ c below.
        elim (side_at kind config first turns are t c table at below) [
          | inl l ↦
              let (lane, has) = l in
              ap (λ (qs : List (Request V O R T)). has_bye qs) (lane_ran c t lane trustee has of) ∙ said c t lane has
          | inr s ↦
              let lower : s.number < n = let e = s.of_table in omega (arith, e, lt) in
              let u_lt = slice_get_within turns.trustees.items s.number s.trustee s.of_trustee in
              let trustees = are.as_many_trustees in
              let tables = are.as_many_tables in
              let (own, at_own) = element_at turns.tables.items s.number (omega (arith, u_lt, trustees, tables)) in
              let its = ended_below n s.number s.trustee own lower s.of_trustee at_own in
              let over = all_at (λ (v : ClientView V O R T). IsAt Over v) (ups_of (plain_theory kind) s.trustee) s.index (client_at s.seat) its.above
              (mapped (λ (side : PlainClient V O R T). client_at side) s.trustee.above.items s.index s.seat s.of_seat) in
              ap (λ (qs : List (Request V O R T)). has_bye qs) (seat_ran t c table trustee at of below s) ∙ over.0
        ])

    pub all_ended :
        (t : ℕ) (trustee : OneTrustee V O R T) (table : PlainTable V O R T) → slice_get turns.trustees.items t ≡ Some trustee
        → slice_get turns.tables.items t ≡ Some table → HasEnded (opening_at table) (trustee_at trustee.side) (ups_of (plain_theory kind) trustee)
    all_ended t trustee table of at = ended_below (suc t) t trustee table (omega arith) of at

  module _ (t u : ℕ) (lower upper : OneTrustee V O R T) (table : PlainTable V O R T) (lt : t < u) (of : slice_get turns.trustees.items t ≡ Some lower)
      (at : slice_get turns.tables.items t ≡ Some table) (of_upper : slice_get turns.trustees.items u ≡ Some upper)
      (ends : HasEnded (opening_at table) (trustee_at lower.side) (ups_of (plain_theory kind) lower)) where
    -- what a trustee that has ended asked of a greater one
    ran_at :
        (s : SeatAt kind turns u (length turns.clients.items + t)) (lane : Lane V O R T) → s.trustee ≡ lower → s.number ≡ t
        → slice_get lower.lanes.items s.index ≡ Some lane
        → HasRunAsks (map target (asks_of (opening_at table).setup u (done_by (plain_theory kind) lower))) (client_at s.seat).sent
    ran_at s lane same number of_lane =
        let (mine, serving) = home_at kind config first turns are t table lower at of in
        let (is_number, ready) = are.trustees t lower of in
        let of_seat : slice_get lower.above.items s.index ≡ Some s.seat =
        subst (λ (x : OneTrustee V O R T). slice_get x.above.items s.index ≡ Some s.seat) same s.of_seat in
        let up : slice_get (ups_of (plain_theory kind) lower) s.index ≡ Some (client_at s.seat) =
        mapped (λ (side : PlainClient V O R T). client_at side) lower.above.items s.index s.seat of_seat in
        let place = s.of_table in
        let here : lower.number + 1 + s.index ≡ u = omega (arith, place, number, is_number) in
        let is = subst (λ k. IsLane kind (opening_at table) (done_by (plain_theory kind) lower) k (client_at s.seat) lane) here
        (serving.lanes s.index (client_at s.seat) lane up of_lane) in
        let over = all_at (λ (v : ClientView V O R T). IsAt Over v) (ups_of (plain_theory kind) lower) s.index (client_at s.seat) ends.above up in
        elim is.last [
          | inl unsaid ↦ absurd (let said = over.0 in cc)
          | inr ended ↦
              record {
                only = serving.above.asked s.index (client_at s.seat) up;
                all = ap asked_by (sym (append-nil (client_at s.seat).sent)) ∙ ap (λ xs. asked_by ((client_at s.seat).sent ++ xs)) (sym ended.1) ∙ sym is.asks;
                last = ended.0;
              }
        ]

    pub nested_ran :
        HasRunAsks (map target (asks_of (opening_at table).setup u (done_by (plain_theory kind) lower)))
        (ran (length turns.clients.items + t) (trustee_at upper.side).log)
    nested_ran =
        let (mine, serving) = home_at kind config first turns are t table lower at of in
        let (is_number, ready) = are.trustees t lower of in
        let u_lt = slice_get_within turns.trustees.items u upper of_upper in
        let trustees = are.as_many_trustees in
        let tables = are.as_many_tables in
        let clients = are.as_many_clients in
        let (own, at_own) = element_at turns.tables.items u (omega (arith, u_lt, trustees, tables)) in
        let places = places_are kind config first turns are u own at_own in
        let i : ℕ = u - (t + 1) in
        let seats = ready.above.as_many in
        let (seat, of_seat) = element_at lower.above.items i (omega (arith, u_lt, lt, is_number, seats, trustees, tables)) in
        let up = mapped (λ (side : PlainClient V O R T). client_at side) lower.above.items i seat of_seat in
        let (lane, of_lane) = there_as (ups_of (plain_theory kind) lower) lower.lanes.items i (client_at seat) serving.above.as_many up in
        let s : SeatAt kind turns u (length turns.clients.items + t) =
        record {
          number = t;
          index = i;
          trustee = lower;
          seat = seat;
          of_trustee = of;
          of_seat = of_seat;
          of_place = refl;
          of_table = omega (arith, lt);
        } in
        let below : length turns.clients.items + t < place_count (opening_at own).setup = omega (arith, lt, places, clients) in
        subst (λ qs. HasRunAsks (map target (asks_of (opening_at table).setup u (done_by (plain_theory kind) lower))) qs)
        (sym (seat_ran u (length turns.clients.items + t) own upper at_own of_upper below s)) (ran_at s lane refl refl of_lane)
