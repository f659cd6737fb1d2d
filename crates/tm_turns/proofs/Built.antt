-- The parts of a build are the whole.
use Rattle.std.proofs.Common.{◌≡◌, ℕ, ◌+◌, ◌≤◌, ◌<◌, List, [], length, length-drop, map, drop, sym, ◌∙◌, ap, subst, arith}
use Rattle.std.specs.Prelude.{slice_get, vec_capacity}
use Rattle.std.specs.declared.option.Option.TheVariants.{Some}
use Rattle.std.proofs.lemmas.List.{length-map}
use Rattle.std.proofs.lemmas.Option.{slice_get_within}
use Rattle.tm_seq.specs.Kind.{Kind}
use Rattle.tm_batch.specs.declared.config.Config.{Config}
use Rattle.tm_batch.specs.declared.config.First.{First}
use Rattle.tm_batch.specs.declared.message.Name.{Name}
use Rattle.tm_model.specs.Opening.{IsBuildable, opening_of}
use Rattle.tm_pair.specs.Views.{new_client}
use Rattle.tm_pair.specs.Plain.{opening_at, client_at, IsClientOf, IsTrusteeOf, plain_theory}
use Rattle.tm_pair.specs.declared.plain.PlainTable.{PlainTable}
use Rattle.tm_pair.specs.declared.plain.PlainClient.{PlainClient}
use Rattle.tm_trustee.specs.Serving.{IsServing}
use Rattle.tm_trustee.specs.Tables.{IsReady}
use Rattle.tm_trustee.proofs.Elements.{element_at, mapped_from}
use Rattle.tm_client.specs.Begun.{new_lane}
use Rattle.tm_client.specs.Clients.{IsClient}
use Rattle.tm_client.specs.declared.trust.Trust.{Trust}
use Rattle.tm_build.specs.Dealing.{AreSplit}
use Rattle.tm_turns.specs.Whole.{OneClient, OneLane, OneTrustee, HasLane}
use Rattle.tm_turns.specs.Opening.{lowest, AreOpened}
use Rattle.tm_turns.specs.Making.{AreNew, IsNewClient, AreNewClients, AreForClients, AreNestedLists, AreParts, AreNewTrustees, HasBuilt}
use Rattle.tm_turns.specs.declared.opened.Opened.{Opened}
use Rattle.tm_turns.specs.declared.turns.Turns.{Turns}
use Rattle.tm_turns.proofs.Fronts.{get_drop, all_from_each}
use Rattle.tm_turns.proofs.Staying.{is_some}

-- a client has a side at each trustee, and trustee t from the one behind it on
lowest_client : (clients c : ℕ) → c < clients → lowest clients c ≡ 0
lowest_client clients c lt = omega (arith, lt)

lowest_trustee : (clients t : ℕ) → lowest clients (clients + t) ≡ t + 1
lowest_trustee clients t = omega arith

module _ {V O R T : Type 0} (kind : Kind V O R T) (config : Config) (first : List (First V)) (opened : Opened V O R T)
    (are : AreOpened kind config first config.trustees opened) where
  -- the sides of each place, and those of the trustees' places
  abbrev pub all_seats : List (List (PlainClient V O R T))
  all_seats = map (λ l. l.items) opened.seats.items

  abbrev pub upper_seats : List (List (PlainClient V O R T))
  upper_seats = drop config.clients all_seats

  many_seats : length all_seats ≡ config.clients + config.trustees
  many_seats = length-map opened.seats.items (λ l. l.items) ∙ are.places

  -- each side of a place is as its table gave it
  sides_new :
      (p : ℕ) (sides : List (PlainClient V O R T)) → slice_get all_seats p ≡ Some sides → AreNew p sides
  sides_new p sides at =
      let its = are.seats p sides at in
      let many = are.as_many_tables in
      let count = its.count in
      all_from_each (λ side. client_at side ≡ new_client p) sides
      (λ k side e.
      let lt = slice_get_within sides k side e in
      let (table, at_table) = element_at opened.tables.items (lowest config.clients p + k) (omega (arith, lt, many, count)) in
      (its.each k table side at_table e).view)

  pub for_clients : AreForClients config all_seats
  for_clients = record {
    as_many = λ c lt. let many = many_seats in omega (arith, lt, many);
    each = λ c sides lt at.
        let count = (are.seats c sides at).count in let low = lowest_client config.clients c lt in (omega (arith, count, low), sides_new c sides at);
  }

  upper_at : (t : ℕ) (seat : List (PlainClient V O R T)) → slice_get upper_seats t ≡ Some seat → slice_get all_seats (config.clients + t) ≡ Some seat
  upper_at t seat at = sym (get_drop all_seats config.clients t) ∙ at

  pub many_upper : length upper_seats ≡ config.trustees
  many_upper = let many = many_seats in let less = length-drop config.clients all_seats in omega (arith, many, less)

  -- the parts of the trustees
  pub parts_are :
      (nested : List (List (ℕ × Name))) (placed : List (List (First V))) → IsBuildable config first → AreNestedLists config first nested
      → AreSplit config.trustees first placed → AreParts config first opened.homes.items upper_seats nested placed
  parts_are nested placed can names split = record {
    buildable = can;
    as_many_homes = are.as_many_homes;
    homes_are = λ t home e.
        let lt = slice_get_within opened.homes.items t home e in
        let homes = are.as_many_homes in
        let tables = are.as_many_tables in
        let (table, at) = element_at opened.tables.items t (omega (arith, lt, homes, tables)) in
        (are.homes t table home at e).1;
    as_many_seats = many_upper;
    seats_are = λ t seat e.
        let at = upper_at t seat e in
        let count = (are.seats (config.clients + t) seat at).count in
        let low = lowest_trustee config.clients t in
        let lt = slice_get_within upper_seats t seat e in
        let many = many_upper in
        (omega (arith, count, low, lt, many), sides_new (config.clients + t) seat at);
    nested_are = names;
    placed_are = split;
  }

  module _ {C : Type 0} (turns : Turns V C O R T) (trusts : List (List Trust)) (can : IsBuildable config first) (tables : turns.tables ≡ opened.tables)
      (clients : AreNewClients kind config first config.clients all_seats turns.clients.items trusts)
      (trustees : AreNewTrustees kind config first config.trustees opened.homes.items upper_seats turns.trustees.items)
      (counts : turns.counts.items ≡ []) (room : config.trustees ≤ vec_capacity turns.counts) where
    here : (t : ℕ) (table : PlainTable V O R T) → slice_get turns.tables.items t ≡ Some table → slice_get opened.tables.items t ≡ Some table
    here t table e = sym (ap (λ v. slice_get v.items t) tables) ∙ e

    opens : (t : ℕ) (table : PlainTable V O R T) → slice_get turns.tables.items t ≡ Some table → opening_at table ≡ opening_of t config first
    opens t table e = are.tables t table (here t table e)

    many_tables : length turns.tables.items ≡ config.trustees
    many_tables = ap (λ v. length v.items) tables ∙ are.as_many_tables

    one_trustee :
        (t : ℕ) (trustee : OneTrustee V O R T) → slice_get turns.trustees.items t ≡ Some trustee
        → (trustee.number ≡ t) × IsReady (plain_theory kind) kind turns.tables.items trustee
    one_trustee t trustee of =
        let (home, seat, at_home, at_seat, new) = trustees.each t trustee of in
        let lt = slice_get_within turns.trustees.items t trustee of in
        let many = trustees.as_many in
        let all = many_tables in
        let (table, at) = element_at turns.tables.items t (omega (arith, lt, many, all)) in
        let (mine, view) = are.homes t table home (here t table at) at_home in
        let number : trustee.number ≡ t = new.serving.number in
        let at_number : slice_get turns.tables.items trustee.number ≡ Some table = ap (λ k. slice_get turns.tables.items k) number ∙ at in
        let its = are.seats (config.clients + t) seat (upper_at t seat at_seat) in
        let low = lowest_trustee config.clients t in
        let count = its.count in
        let as_many : length trustee.above.items ≡ length seat = ap (λ xs. length xs) new.above in (
          number,
          record {
            home =
                is_some (slice_get turns.tables.items trustee.number)
                (λ x. IsTrusteeOf kind x trustee.side × IsServing (plain_theory kind) kind (opening_at x) trustee) table at_number (
                  subst (λ h. IsTrusteeOf kind table h) (sym new.side) mine,
                  subst (λ s. IsServing (plain_theory kind) kind s trustee) (sym (opens t table at)) new.serving,
                );
            built = record { built = (config, first, opens) };
            above = record {
              as_many = omega (arith, number, count, low, as_many, lt, many, all);
              mine = λ i x side ex es.
                  let e : trustee.number + 1 + i ≡ lowest config.clients (config.clients + t) + i = omega (arith, number, low) in
                  let one = its.each i x side (subst (λ k. slice_get opened.tables.items k ≡ Some x) e (here (trustee.number + 1 + i) x ex))
                  (subst (λ xs. slice_get xs i ≡ Some side) new.above es) in
                  one.mine;
            };
          },
        )

    -- a client, with its sides
    pub client_with :
        (c : ℕ) (client : OneClient V C O R T) → slice_get turns.clients.items c ≡ Some client
        → (of_client : List Trust) × (sides : List (PlainClient V O R T)) × (slice_get all_seats c ≡ Some sides)
        × IsNewClient kind config first c sides client of_client
    client_with c client of =
        let lt = slice_get_within turns.clients.items c client of in
        let many = clients.as_many in
        let many_trusts = clients.as_many_trusts in
        let (of_client, at) = element_at trusts c (omega (arith, lt, many, many_trusts)) in
        let (sides, at_sides, new) = clients.each c client of_client of at in
        (of_client, sides, at_sides, new)

    client_below : (c : ℕ) (client : OneClient V C O R T) → slice_get turns.clients.items c ≡ Some client → c < config.clients
    client_below c client of = let lt = slice_get_within turns.clients.items c client of in let many = clients.as_many in omega (arith, lt, many)

    one_client :
        (c : ℕ) (client : OneClient V C O R T) → slice_get turns.clients.items c ≡ Some client
        → (client.books.number ≡ c) × (length client.books.lanes.items ≡ config.trustees)
        × IsClient (plain_theory kind).client_view (λ t. opening_of t config first) client.books
    one_client c client of =
        let (of_client, sides, at, new) = client_with c client of in (
          new.begun.number_of,
          ap (λ xs. length xs) new.begun.lanes ∙ length-map sides new_lane ∙ (for_clients.each c sides (client_below c client of) at).0,
          new.is_client,
        )

    lane_seated :
        (c t : ℕ) (lane : OneLane V C O R T) (table : PlainTable V O R T) → HasLane turns c t lane → slice_get turns.tables.items t ≡ Some table
        → IsClientOf kind table lane.side
    lane_seated c t lane table has at =
        let (of_client, sides, at_sides, new) = client_with c has.client has.of_client in
        let (side, at_side, is) = mapped_from new_lane sides t lane (subst (λ xs. slice_get xs t ≡ Some lane) new.begun.lanes has.of_lane) in
        let low = lowest_client config.clients c (client_below c has.client has.of_client) in
        let e : t ≡ lowest config.clients c + t = omega (arith, low) in
        let its = (are.seats c sides at_sides).each t table side (subst (λ k. slice_get opened.tables.items k ≡ Some table) e (here t table at)) at_side in
        subst (λ (l : OneLane V C O R T). IsClientOf kind table l.side) (sym is) its.mine

    pub built_is : HasBuilt kind config first turns trusts
    built_is = record {
      are = record {
        buildable = can;
        as_many_clients = clients.as_many;
        as_many_tables = many_tables;
        as_many_trustees = trustees.as_many;
        tables = opens;
        trustees = one_trustee;
        clients = one_client;
        seated = lane_seated;
        counts = counts;
        counts_room = room;
      };
      as_many = clients.as_many_trusts;
      clients = λ c client of_client e et.
          let (sides, at, new) = clients.each c client of_client e et in (sides, sides_new c sides at, new);
      trustees = λ t trustee e.
          let (home, seat, at_home, at_seat, new) = trustees.each t trustee e in
          let lt = slice_get_within turns.trustees.items t trustee e in
          let many = trustees.as_many in
          let all = many_tables in
          let (table, at) = element_at turns.tables.items t (omega (arith, lt, many, all)) in
          (home, seat, (are.homes t table home (here t table at) at_home).1, sides_new (config.clients + t) seat (upper_at t seat at_seat), new);
    }
