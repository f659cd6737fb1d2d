-- Each trustee's sides show one good core.
use Rattle.std.proofs.Common.{◌+◌, length, refl, arith}
use Rattle.tm_seq.specs.Kind.{Kind}
use Rattle.tm_pair.specs.Plain.{core_at}
use Rattle.std.proofs.lemmas.Option.{slice_get_within}
use Rattle.tm_trustee.proofs.Elements.{element_at}
use Rattle.tm_turns.specs.Whole.{AreTurns, OneGoodCoreEach}
use Rattle.tm_turns.specs.declared.turns.Turns.{Turns}
use Rattle.tm_turns.proofs.Seated.{lane_shows, seat_shows, home_at}

module _ {V C O R T : Type 0} (kind : Kind V O R T) where
  pub one_core_each : (turns : Turns V C O R T) → AreTurns kind turns → OneGoodCoreEach kind turns
  one_core_each turns (config, first, are) t table at =
      let lt = slice_get_within turns.tables.items t table at in
      let tables = are.as_many_tables in
      let trustees = are.as_many_trustees in
      let (own, of) = element_at turns.trustees.items t (omega (arith, lt, tables, trustees)) in
      record {
        core = core_at table;
        good = (home_at kind config first turns are t table own at of).0.of_table.good;
        trustee = λ trustee e. (home_at kind config first turns are t table trustee at e).0.view;
        clients = λ c lane has. lane_shows kind config first turns are t c table lane at has;
        lower = λ u i trustee seat e e_seat is.
            seat_shows kind config first turns are t (length turns.clients.items + u) table at
            (record { number = u; index = i; trustee = trustee; seat = seat; of_trustee = e; of_seat = e_seat; of_place = refl; of_table = is });
      }
