use Rattle.std.proofs.Common.{refl}
use Rattle.tm_seq.specs.Counting.{counter_kind}
use Rattle.tm_turns.proofs.May.{may_turn}
use Rattle.tm_turns.proofs.TurnKeeps.{turn_keeps}
use Rattle.tm_turns_tests.proofs.Ones.{are_turns, client_counts, client_of, stays, table_counts, table_of}
use Rattle.tm_turns_tests.proofs.adding.turn.Goals as goal

pub index_mut-table-requires : goal.index_mut-table-requires
index_mut-table-requires c = table_counts c.args.turns.now c.requires

pub index_mut-requires : goal.index_mut-requires
index_mut-requires c = client_counts c.args.turns.now c.requires

pub turn-requires : goal.turn-requires
turn-requires c =
    let client = c.index_mut.result.now in
    let table = c.index_mut-table.result.now in
    let of = client_of c.args.turns.now client c.requires c.index_mut.ensures.value in
    let at = table_of c.args.turns.now table c.requires c.index_mut-table.ensures.value in
    let may = may_turn counter_kind c.args.turns.now 0 1 client table (are_turns c.args.turns.now c.requires) of at in
    record { trustee = may.trustee; mine = may.mine; client = may.client_is }

pub returns : goal.returns
returns c =
    let client = c.index_mut.result.now in
    let table = c.index_mut-table.result.now in
    stays c.args.turns.now _ c.requires
    (turn_keeps counter_kind 0 1 c.turn.result c.args.turns.now _
    (record {
      client = client;
      becomes = c.turn.new.self;
      was = table;
      now = c.turn.new.table;
      of_client = client_of c.args.turns.now client c.requires c.index_mut.ensures.value;
      of_table = table_of c.args.turns.now table c.requires c.index_mut-table.ensures.value;
      turned = c.turn.ensures.turned;
      still = c.turn.ensures.client;
      clients = refl;
      tables = refl;
      trustees = refl;
      counts = refl;
    }))
