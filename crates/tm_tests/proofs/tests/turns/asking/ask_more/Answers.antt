use Rattle.std.proofs.Common.{◌≡◌, lit<, ◌∙◌, ap}
use Rattle.tm_tests.proofs.DrivenKept.{call_keeps, seat_of, call_seated}
use Rattle.tm_tests.proofs.DrivenAsked.{more_orderly}
use Rattle.tm_tests.proofs.tests.turns.asking.ask_more.Goals as goal

pub publish-requires : goal.publish-requires
publish-requires g c =
    let (at, opens, has) = seat_of g.P.PairTable.theory c.args.tables.now 1 _ c.index-tables-1.result c.args.side.now c.requires.mine in
    (lit< tt, (lit< tt, (has, λ free. rw (opens, c.requires.first, c.more.ensures.requests) more_orderly)))

pub returns-clause-mine : goal.returns-clause-mine
returns-clause-mine g c =
    call_seated g.P.PairTable.theory c.args.tables.now 1 _ c.index-tables-1.result c.publish.new.self
    c.args.side.now c.publish.new.side c.requires.mine c.publish.ensures.keeps.opening c.publish.ensures.keeps.mine

pub returns-clause-others : goal.returns-clause-others
returns-clause-others g c =
    let P = g.P.PairTable in
    let (at, opens, has) = seat_of P.theory c.args.tables.now 1 _ c.index-tables-1.result c.args.side.now c.requires.mine in
    let place : (P.theory.client_view c.args.side.now).place ≡ 1 = ap (λ view. view.place) c.requires.first in
    call_keeps P.theory c.args.tables.now 1 1 _ c.publish.new.self at c.publish.ensures.keeps.opening
    (λ other ne. c.publish.ensures.keeps.clients other (λ same. ne (same ∙ place))) c.publish.ensures.keeps.trustee
