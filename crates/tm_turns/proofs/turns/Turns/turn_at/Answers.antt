use Rattle.std.proofs.Common.{refl}
use Rattle.tm_trustee.proofs.Elements.{read_at}
use Rattle.tm_turns.proofs.May.{may_turn}
use Rattle.tm_turns.proofs.Steps.{turned_at}
use Rattle.tm_turns.proofs.turns.Turns.turn_at.Goals as goal

pub turn-requires-clause-mine : goal.turn-requires-clause-mine
turn-requires-clause-mine g c =
    let client = c.index_mut.result.now in
    let table = c.index_mut-table.result.now in
    let of = read_at c.args.self.now.clients.items c.args.client client c.requires.client c.index_mut.ensures.value in
    let at = read_at c.args.self.now.tables.items c.args.trustee table c.requires.trustee c.index_mut-table.ensures.value in
    let may = may_turn g.S.Entrusted.kind c.args.self.now c.args.client c.args.trustee client table c.requires.are of at in may.mine

pub turn-requires-clause-client : goal.turn-requires-clause-client
turn-requires-clause-client g c =
    let client = c.index_mut.result.now in
    let table = c.index_mut-table.result.now in
    let of = read_at c.args.self.now.clients.items c.args.client client c.requires.client c.index_mut.ensures.value in
    let at = read_at c.args.self.now.tables.items c.args.trustee table c.requires.trustee c.index_mut-table.ensures.value in
    let may = may_turn g.S.Entrusted.kind c.args.self.now c.args.client c.args.trustee client table c.requires.are of at in may.client_is

pub returns : goal.returns
returns g c =
    let client = c.index_mut.result.now in
    let table = c.index_mut-table.result.now in
    let of = read_at c.args.self.now.clients.items c.args.client client c.requires.client c.index_mut.ensures.value in
    let at = read_at c.args.self.now.tables.items c.args.trustee table c.requires.trustee c.index_mut-table.ensures.value in
    turned_at g.S.Entrusted.kind c.args.client c.args.trustee c.turn.result c.args.self.now _
    (record {
      client = client;
      becomes = c.turn.new.self;
      was = table;
      now = c.turn.new.table;
      of_client = of;
      of_table = at;
      turned = c.turn.ensures.turned;
      still = c.turn.ensures.client;
      clients = refl;
      tables = refl;
      trustees = refl;
      counts = refl;
    })
