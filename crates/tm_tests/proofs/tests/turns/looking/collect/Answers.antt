use Rattle.std.proofs.Common.{lit<}
use Rattle.tm_tests.proofs.DrivenKept.{call_keeps, seat_of, call_seated}
use Rattle.tm_tests.proofs.tests.turns.looking.collect.Goals as goal

pub collect-requires : goal.collect-requires
collect-requires g c =
    let (at, opens, has) = seat_of g.P.PairTable.theory c.args.tables.now 1 _ c.index-tables-1.result c.args.side.now c.requires in
    (lit< tt, has)

pub returns-clause-mine : goal.returns-clause-mine
returns-clause-mine g c =
    call_seated g.P.PairTable.theory c.args.tables.now 1 _ c.index-tables-1.result c.collect.new.self
    c.args.side.now c.collect.new.side c.requires c.collect.ensures.keeps.opening c.collect.ensures.keeps.mine

pub returns-clause-others : goal.returns-clause-others
returns-clause-others g c =
    let P = g.P.PairTable in
    let (at, opens, has) = seat_of P.theory c.args.tables.now 1 _ c.index-tables-1.result c.args.side.now c.requires in
    call_keeps P.theory c.args.tables.now 1 (P.theory.client_view c.args.side.now).place _
    c.collect.new.self at c.collect.ensures.keeps.opening c.collect.ensures.keeps.clients c.collect.ensures.keeps.trustee
