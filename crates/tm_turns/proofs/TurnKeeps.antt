-- A client's turn at one trustee keeps the whole of one build.
use Rattle.std.proofs.Common.{◌≡◌, ◌≢◌, ℕ, ◌<◌, ◌≤◌, inl, inr, List, length, length-set, refl, sym, ◌∙◌, ap, subst, arith}
use Rattle.std.specs.Prelude.{slice_get, slice_set, vec_capacity}
use Rattle.std.specs.declared.option.Option.TheVariants.{Some}
use Rattle.tm_seq.specs.Kind.{Kind}
use Rattle.tm_batch.specs.declared.config.Config.{Config}
use Rattle.tm_batch.specs.declared.config.First.{First}
use Rattle.tm_model.specs.State.{State}
use Rattle.tm_model.specs.Opening.{opening_of}
use Rattle.tm_pair.specs.Plain.{opening_at, client_at, IsClientOf, IsTrusteeOf, plain_theory}
use Rattle.tm_pair.specs.declared.plain.PlainTable.{PlainTable}
use Rattle.tm_pair.specs.declared.plain.PlainClient.{PlainClient}
use Rattle.tm_trustee.proofs.Elements.{set_cases}
use Rattle.tm_trustee.specs.Tables.{IsReady}
use Rattle.tm_trustee.proofs.TurningReady.{at_home, own_table}
use Rattle.tm_client.specs.Clients.{IsClient}
use Rattle.tm_client.specs.declared.answers.Turn.{Turn}
use Rattle.tm_turns.specs.Whole.{OneClient, OneLane, OneTrustee, AreOf, Keeps}
use Rattle.tm_turns.specs.Driving.{TurnedAt}
use Rattle.tm_turns.specs.declared.turns.Turns.{Turns}
use Rattle.tm_turns.proofs.Staying.{joined, still_ready}

module _ {V C O R T : Type 0} (kind : Kind V O R T) where
  -- the place of the side that client c keeps is c
  pub place_of_lane :
      (config : Config) (first : List (First V)) (turns : Turns V C O R T) (c t : ℕ) (client : OneClient V C O R T) (lane : OneLane V C O R T)
      → AreOf kind config first turns → slice_get turns.clients.items c ≡ Some client → slice_get client.books.lanes.items t ≡ Some lane
      → (client_at lane.side).place ≡ c
  place_of_lane config first turns c t client lane are at of =
      let (number, many, is) = are.clients c client at in (is.lanes t lane of).place ∙ number

  -- a client c of one build is below the number of clients
  pub client_below :
      (config : Config) (first : List (First V)) (turns : Turns V C O R T) (c t : ℕ) (client : OneClient V C O R T) (lane : OneLane V C O R T)
      → AreOf kind config first turns → slice_get turns.clients.items c ≡ Some client → slice_get client.books.lanes.items t ≡ Some lane
      → c < config.clients
  client_below config first turns c t client lane are at of =
      let (number, many, is) = are.clients c client at in subst (λ n. n < config.clients) number (is.lanes t lane of).client

  module _ (c t : ℕ) (answer : Turn) (old new : Turns V C O R T) (is : TurnedAt kind c t answer old new)
      (config : Config) (first : List (First V)) (are : AreOf kind config first old) where
    one_table :
        (k : ℕ) (table : PlainTable V O R T) → slice_get new.tables.items k ≡ Some table → opening_at table ≡ opening_of k config first
    one_table k table e =
        elim (set_cases old.tables.items t k is.now table (subst (λ xs. slice_get xs k ≡ Some table) is.tables e)) [
          | inl h ↦
              subst (λ x. opening_at x ≡ opening_of k config first) (sym h.1)
              (is.turned.keeps.opening ∙ are.tables t is.was is.of_table ∙ ap (λ n. opening_of n config first) (sym h.0))
          | inr h ↦ are.tables k table h.1
        ]

    openings_stay :
        (k : ℕ) (x y : PlainTable V O R T) → slice_get old.tables.items k ≡ Some x → slice_get new.tables.items k ≡ Some y → opening_at y ≡ opening_at x
    openings_stay k x y ex ey =
        joined (λ a b. opening_at b ≡ opening_at a) (λ a. refl) old.tables.items t k is.was is.now x y is.of_table is.turned.keeps.opening ex
        (subst (λ xs. slice_get xs k ≡ Some y) is.tables ey)

    place_of_turn : (client_at is.turned.lane.side).place ≡ c
    place_of_turn = place_of_lane config first old c t is.client is.turned.lane are is.of_client is.turned.turns.of_lane

    below_clients : c < config.clients
    below_clients = client_below config first old c t is.client is.turned.lane are is.of_client is.turned.turns.of_lane

    -- a side of another place stays one of its table
    side_stays :
        (k : ℕ) (x y : PlainTable V O R T) (side : PlainClient V O R T) → slice_get old.tables.items k ≡ Some x → slice_get new.tables.items k ≡ Some y
        → (client_at side).place ≢ c → IsClientOf kind x side → IsClientOf kind y side
    side_stays k x y side ex ey ne has =
        joined (λ a b. IsClientOf kind a side → IsClientOf kind b side) (λ a h. h) old.tables.items t k is.was is.now x y is.of_table
        (is.turned.keeps.clients side (λ e. ne (e ∙ place_of_turn))) ex (subst (λ xs. slice_get xs k ≡ Some y) is.tables ey) has

    one_trustee :
        (k : ℕ) (trustee : OneTrustee V O R T) → slice_get new.trustees.items k ≡ Some trustee
        → (trustee.number ≡ k) × IsReady (plain_theory kind) kind new.tables.items trustee
    one_trustee k trustee e =
        let (number, ready) = are.trustees k trustee (subst (λ xs. slice_get xs.items k ≡ Some trustee) is.trustees e) in
        let (own, at_own) = own_table (plain_theory kind) kind old.tables.items trustee ready in
        let home = at_home (plain_theory kind) kind old.tables.items trustee own ready at_own in
        let clients : trustee.clients ≡ config.clients =
        home.1.clients ∙ ap (λ (s : State V O R T). s.setup.config.clients) (are.tables trustee.number own at_own) in (
          number,
          still_ready (plain_theory kind) kind old.tables.items new.tables.items trustee (ap (λ xs. length xs) is.tables ∙ length-set old.tables.items t is.now)
              openings_stay
              (λ x y ex ey has.
              joined (λ a b. IsTrusteeOf kind a trustee.side → IsTrusteeOf kind b trustee.side) (λ a h. h) old.tables.items t trustee.number is.was is.now x y is.of_table
              (is.turned.keeps.trustee trustee.side) ex (subst (λ xs. slice_get xs trustee.number ≡ Some y) is.tables ey) has)
              (λ i x y seat lt ex ey up has.
              side_stays i x y seat ex ey (λ same. let below = below_clients in omega (arith, up, same, clients, below)) has)
              ready,
        )

    one_client :
        (k : ℕ) (client : OneClient V C O R T) → slice_get new.clients.items k ≡ Some client
        → (client.books.number ≡ k) × (length client.books.lanes.items ≡ config.trustees)
        × IsClient (plain_theory kind).client_view (λ s. opening_of s config first) client.books
    one_client k client e =
        elim (set_cases old.clients.items c k is.becomes client (subst (λ xs. slice_get xs k ≡ Some client) is.clients e)) [
          | inl h ↦
              let (number, many, client_is) = are.clients c is.client is.of_client in
              subst
              (λ x.
              (x.books.number ≡ k) × (length x.books.lanes.items ≡ config.trustees)
              × IsClient (plain_theory kind).client_view (λ s. opening_of s config first) x.books)
              (sym h.1) (
                is.turned.turns.number ∙ number ∙ sym h.0,
                ap (λ xs. length xs) is.turned.turns.lanes ∙ length-set is.client.books.lanes.items t is.turned.becomes ∙ many,
                is.still (λ s. opening_of s config first) (sym (are.tables t is.was is.of_table)) client_is,
              )
          | inr h ↦ are.clients k client h.1
        ]

    -- the side of a lane is one of its table
    lane_seated :
        (k s : ℕ) (client : OneClient V C O R T) (lane : OneLane V C O R T) (table : PlainTable V O R T) → slice_get new.clients.items k ≡ Some client
        → slice_get client.books.lanes.items s ≡ Some lane → slice_get new.tables.items s ≡ Some table → IsClientOf kind table lane.side
    lane_seated k s client lane table e of at =
        let at_set : slice_get (slice_set old.tables.items t is.now) s ≡ Some table = subst (λ xs. slice_get xs s ≡ Some table) is.tables at in
        elim (set_cases old.clients.items c k is.becomes client (subst (λ xs. slice_get xs k ≡ Some client) is.clients e)) [
          | inl h ↦
              let of_set : slice_get (slice_set is.client.books.lanes.items t is.turned.becomes) s ≡ Some lane =
              subst (λ xs. slice_get xs s ≡ Some lane) is.turned.turns.lanes (subst (λ (x : OneClient V C O R T). slice_get x.books.lanes.items s ≡ Some lane) h.1 of) in
              elim (set_cases is.client.books.lanes.items t s is.turned.becomes lane of_set) [
                | inl l ↦
                    elim (set_cases old.tables.items t s is.now table at_set) [
                      | inl x ↦
                          subst (λ y. IsClientOf kind y lane.side) (sym x.1)
                          (subst (λ (y : OneLane V C O R T). IsClientOf kind is.now y.side) (sym l.1) is.turned.keeps.mine)
                      | inr x ↦ absurd (x.0 l.0)
                    ]
                | inr l ↦
                    elim (set_cases old.tables.items t s is.now table at_set) [
                      | inl x ↦ absurd (l.0 x.0)
                      | inr x ↦ are.seated c s lane table (record { client = is.client; of_client = is.of_client; of_lane = l.1 }) x.1
                    ]
              ]
          | inr h ↦
              elim (set_cases old.tables.items t s is.now table at_set) [
                | inl x ↦
                    let at_was : slice_get old.tables.items s ≡ Some is.was = subst (λ n. slice_get old.tables.items n ≡ Some is.was) (sym x.0) is.of_table in
                    let has = are.seated k s lane is.was (record { client = client; of_client = h.1; of_lane = of }) at_was in
                    let place = place_of_lane config first old k s client lane are h.1 of in
                    side_stays s is.was table lane.side at_was at (λ same. h.0 (sym place ∙ same)) has
                | inr x ↦ are.seated k s lane table (record { client = client; of_client = h.1; of_lane = of }) x.1
              ]
        ]

    keeps_all : AreOf kind config first new
    keeps_all = record {
      buildable = are.buildable;
      as_many_clients = ap (λ xs. length xs) is.clients ∙ length-set old.clients.items c is.becomes ∙ are.as_many_clients;
      as_many_tables = ap (λ xs. length xs) is.tables ∙ length-set old.tables.items t is.now ∙ are.as_many_tables;
      as_many_trustees = ap (λ xs. length xs.items) is.trustees ∙ are.as_many_trustees;
      tables = one_table;
      trustees = one_trustee;
      clients = one_client;
      seated = λ k s lane table has at. lane_seated k s has.client lane table has.of_client has.of_lane at;
      counts = ap (λ xs. xs.items) is.counts ∙ are.counts;
      counts_room = subst (λ xs. config.trustees ≤ vec_capacity xs) (sym is.counts) are.counts_room;
    }

  pub turn_keeps : (c t : ℕ) (answer : Turn) (old new : Turns V C O R T) → TurnedAt kind c t answer old new → Keeps kind old new
  turn_keeps c t answer old new is config first are = keeps_all c t answer old new is config first are
