-- Each place of a table has a side among the clients and the lower trustees, and that side stands for what the table's core shows.
use Rattle.std.proofs.Common.{◌≡◌, ℕ, ◌+◌, ◌-◌, ◌<◌, ◌⊎◌, inl, inr, List, length, sym, ◌∙◌, ap, subst, arith}
use Rattle.std.specs.Prelude.{slice_get}
use Rattle.std.specs.declared.option.Option.TheVariants.{Some}
use Rattle.std.proofs.lemmas.Option.{slice_get_within}
use Rattle.std.proofs.lemmas.Bool.{cases_lt}
use Rattle.tm_seq.specs.Kind.{Kind}
use Rattle.tm_batch.specs.declared.config.Config.{Config}
use Rattle.tm_batch.specs.declared.config.First.{First}
use Rattle.tm_model.specs.State.{State, place_count}
use Rattle.tm_model.specs.Slots.{slot_of}
use Rattle.tm_pair.specs.SideViews.{client_of}
use Rattle.tm_pair.specs.Plain.{opening_at, core_at, client_at, IsClientOf, IsTrusteeOf, plain_theory}
use Rattle.tm_pair.specs.declared.plain.PlainTable.{PlainTable}
use Rattle.tm_pair.specs.declared.plain.PlainClient.{PlainClient}
use Rattle.tm_trustee.specs.Serving.{IsServing}
use Rattle.tm_trustee.proofs.Elements.{element_at, mapped}
use Rattle.tm_trustee.proofs.TurningReady.{at_home, own_table}
use Rattle.tm_turns.specs.Whole.{OneLane, OneTrustee, HasLane, AreOf}
use Rattle.tm_turns.specs.declared.turns.Turns.{Turns}
use Rattle.tm_turns.proofs.TurnKeeps.{place_of_lane}
use Rattle.tm_turns.proofs.ServeKeeps.{clients_of}

module _ {V C O R T : Type 0} (kind : Kind V O R T) where
  -- the side of place c of table t: that of a client, or that of a lower trustee
  abbrev pub LaneAt : Turns V C O R T → ℕ → ℕ → Type 0
  LaneAt turns t c = (lane : OneLane V C O R T) × HasLane turns c t lane

  pub record SeatAt (turns : Turns V C O R T) (t c : ℕ) : Type 0 where
    pub number : ℕ
    pub index : ℕ
    pub trustee : OneTrustee V O R T
    pub seat : PlainClient V O R T
    pub of_trustee : slice_get turns.trustees.items number ≡ Some trustee
    pub of_seat : slice_get trustee.above.items index ≡ Some seat
    pub of_place : c ≡ length turns.clients.items + number
    pub of_table : number + 1 + index ≡ t

  module _ (config : Config) (first : List (First V)) (turns : Turns V C O R T) (are : AreOf kind config first turns) where
    pub table_below : (t : ℕ) (table : PlainTable V O R T) → slice_get turns.tables.items t ≡ Some table → t < config.trustees
    table_below t table at = let lt = slice_get_within turns.tables.items t table at in let n = are.as_many_tables in omega (arith, lt, n)

    pub places_are :
        (t : ℕ) (table : PlainTable V O R T) → slice_get turns.tables.items t ≡ Some table → place_count (opening_at table).setup ≡ config.clients + t
    places_are t table at = ap (λ (s : State V O R T). place_count s.setup) (are.tables t table at)

    pub side_at :
        (t c : ℕ) (table : PlainTable V O R T) → slice_get turns.tables.items t ≡ Some table → c < place_count (opening_at table).setup
        → LaneAt turns t c ⊎ SeatAt turns t c
    side_at t c table at lt =
        let below = table_below t table at in
        let places = places_are t table at in
        let clients = are.as_many_clients in
        let trustees = are.as_many_trustees in
        let tables = are.as_many_tables in
        elim (cases_lt c config.clients) [
          | inl is ↦
              let (client, of_client) = element_at turns.clients.items c (omega (arith, is, clients)) in
              let (number, many, ok) = are.clients c client of_client in
              let (lane, of_lane) = element_at client.books.lanes.items t (omega (arith, below, many)) in
              inl (lane, record { client = client; of_client = of_client; of_lane = of_lane })
          | inr not ↦
              let u : ℕ = c - config.clients in
              let i : ℕ = t - (u + 1) in
              let (trustee, of_trustee) = element_at turns.trustees.items u (omega (arith, lt, places, not, below, trustees)) in
              let (number, ready) = are.trustees u trustee of_trustee in
              let seats = ready.above.as_many in
              let (seat, of_seat) = element_at trustee.above.items i (omega (arith, lt, places, not, below, number, seats, tables)) in
              inr (record {
                number = u;
                index = i;
                trustee = trustee;
                seat = seat;
                of_trustee = of_trustee;
                of_seat = of_seat;
                of_place = omega (arith, not, clients);
                of_table = omega (arith, lt, places, not);
              })
        ]

    -- a lane's side stands for its slot
    pub lane_shows :
        (t c : ℕ) (table : PlainTable V O R T) (lane : OneLane V C O R T) → slice_get turns.tables.items t ≡ Some table → HasLane turns c t lane
        → client_at lane.side ≡ client_of c (slot_of (core_at table) c)
    lane_shows t c table lane at has =
        let mine = are.seated c t lane table has at in
        let place = place_of_lane kind config first turns c t has.client lane are has.of_client has.of_lane in
        let is : lane.side.place ≡ c = place in
        mine.view ∙ ap (λ k. client_of k (slot_of (core_at table) k)) is

    -- a trustee's seat above is one of its table, at its own place
    pub seat_mine :
        (t c : ℕ) (table : PlainTable V O R T) → slice_get turns.tables.items t ≡ Some table → (s : SeatAt turns t c)
        → IsClientOf kind table s.seat × (s.seat.place ≡ c)
    seat_mine t c table at s =
        let (number, ready) = are.trustees s.number s.trustee s.of_trustee in
        let (own, at_own) = own_table (plain_theory kind) kind turns.tables.items s.trustee ready in
        let home = at_home (plain_theory kind) kind turns.tables.items s.trustee own ready at_own in
        let e : s.trustee.number + 1 + s.index ≡ t = let of = s.of_table in omega (arith, number, of) in
        let here : slice_get turns.tables.items (s.trustee.number + 1 + s.index) ≡ Some table =
        subst (λ k. slice_get turns.tables.items k ≡ Some table) (sym e) at in
        let mine = ready.above.mine s.index table s.seat here s.of_seat in
        let place : s.seat.place ≡ s.trustee.clients + s.trustee.number =
        home.1.above.places s.index (client_at s.seat) (mapped (λ (side : PlainClient V O R T). client_at side) s.trustee.above.items s.index s.seat s.of_seat) in
        let clients = clients_of kind config first turns s.number s.trustee are s.of_trustee in
        let many = are.as_many_clients in
        let of = s.of_place in
        (mine, omega (arith, place, clients, number, many, of))

    pub seat_shows :
        (t c : ℕ) (table : PlainTable V O R T) → slice_get turns.tables.items t ≡ Some table → (s : SeatAt turns t c)
        → client_at s.seat ≡ client_of c (slot_of (core_at table) c)
    seat_shows t c table at s =
        let (mine, place) = seat_mine t c table at s in mine.view ∙ ap (λ k. client_of k (slot_of (core_at table) k)) place

    -- a trustee of the whole has its own side of its table
    pub home_at :
        (t : ℕ) (table : PlainTable V O R T) (trustee : OneTrustee V O R T) → slice_get turns.tables.items t ≡ Some table
        → slice_get turns.trustees.items t ≡ Some trustee
        → IsTrusteeOf kind table trustee.side × IsServing (plain_theory kind) kind (opening_at table) trustee
    home_at t table trustee at of =
        let (number, ready) = are.trustees t trustee of in
        at_home (plain_theory kind) kind turns.tables.items trustee table ready (subst (λ k. slice_get turns.tables.items k ≡ Some table) (sym number) at)
