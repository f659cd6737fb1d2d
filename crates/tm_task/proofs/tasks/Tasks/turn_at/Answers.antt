use Rattle.std.proofs.Common.{◌≤◌, slice_index_or, refl, arith}
use Rattle.std.proofs.lemmas.Option.{slice_get-get_or}
use Rattle.tm_task.specs.Progressing.{counting_at}
use Rattle.tm_task.proofs.Busy.{idle_at, counting_is}
use Rattle.tm_task.proofs.MadeTurns.{turns_none, turns_one}
use Rattle.tm_task.proofs.Worlds.{may_turn, tables_turned}
use Rattle.tm_task.proofs.tasks.Tasks.turn_at.Goals as goal

pub returns-then-counting-eq0-clause-turns : goal.returns-then-counting-eq0-clause-turns
returns-then-counting-eq0-clause-turns g c =
    turns_none g.P.PairTable.theory g.S.Entrusted.kind g.T.Task.rules _ c.args.self.now c.args.client.now.books c.args.tables.now
    (idle_at c.args.client.now.books c.args.trustee c.counting.result c.counting.ensures c.if-counting-eq0.true)

pub turn-turn-requires-clause-mine : goal.turn-turn-requires-clause-mine
turn-turn-requires-clause-mine g c =
    let (openings, are, is) = c.requires.client in
    let tables = c.args.tables.now in
    let table = slice_index_or tables c.args.trustee c.index-tables-trustee.result in
    (may_turn g.P.PairTable.theory openings c.args.client.now.books tables c.args.trustee table are
    (slice_get-get_or tables c.args.trustee c.index-tables-trustee.result c.requires.trustee)).0

pub turn-turn-requires-clause-client : goal.turn-turn-requires-clause-client
turn-turn-requires-clause-client g c =
    let (openings, are, is) = c.requires.client in
    let tables = c.args.tables.now in
    let table = slice_index_or tables c.args.trustee c.index-tables-trustee.result in (
      openings,
      (may_turn g.P.PairTable.theory openings c.args.client.now.books tables c.args.trustee table are
          (slice_get-get_or tables c.args.trustee c.index-tables-trustee.result c.requires.trustee)).1,
      is,
    )

pub returns-clause-turns : goal.returns-clause-turns
returns-clause-turns g c =
    let (openings, are, is) = c.requires.client in
    let tables = c.args.tables.now in
    let books = c.args.client.now.books in
    let table = slice_index_or tables c.args.trustee c.index-tables-trustee.result in
    let of = slice_get-get_or tables c.args.trustee c.index-tables-trustee.result c.requires.trustee in
    let count = counting_is books c.args.trustee c.counting.result c.counting.ensures in
    let not_none = c.if-counting-eq0.false in
    let some : 1 ≤ counting_at books c.args.trustee = omega (arith, count, not_none) in
    turns_one g.P.PairTable.theory g.S.Entrusted.kind g.T.Task.rules openings c.args.trustee c.turn-turn.result table c.turn-turn.new.table c.args.self.now _
    books c.turn-turn.new.self.books tables _ c.has_gone.result c.has_gone.ensures is c.turn-turn.ensures.turned some of refl c.turned-self.ensures refl
    (record { trusts = refl; room = refl; stages_room = refl; outs = refl })

pub returns-clause-client : goal.returns-clause-client
returns-clause-client g c = λ openings are is.
    let tables = c.args.tables.now in
    let books = c.args.client.now.books in
    let table = slice_index_or tables c.args.trustee c.index-tables-trustee.result in
    let of = slice_get-get_or tables c.args.trustee c.index-tables-trustee.result c.requires.trustee in
    let may = may_turn g.P.PairTable.theory openings books tables c.args.trustee table are of in (
      tables_turned g.P.PairTable.theory openings g.S.Entrusted.kind c.args.trustee c.turn-turn.result table c.turn-turn.new.table books
          c.turn-turn.new.self.books tables _ of refl c.turn-turn.ensures.turned are,
      c.turn-turn.ensures.client openings may.1 is,
    )
