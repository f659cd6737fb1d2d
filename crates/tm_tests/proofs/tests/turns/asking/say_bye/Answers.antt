use Rattle.std.proofs.Common.{lit<, sym, subst}
use Rattle.std.specs.Prelude.{slice_index_or}
use Rattle.tm_model.specs.Orderly.{IsOrderly}
use Rattle.tm_tests.specs.Driving.{counting}
use Rattle.tm_tests.proofs.DrivenKept.{call_keeps, seat_of, call_seated, elsewhere_seated}
use Rattle.tm_tests.proofs.DrivenAsked.{bye_orderly}
use Rattle.tm_tests.proofs.tests.turns.asking.say_bye.Goals as goal

pub publish-requires : goal.publish-requires
publish-requires g c =
    let P = g.P.PairTable in
    let view = P.theory.client_view c.args.side.now in
    let (at, opens, has) = seat_of P.theory c.args.tables.now c.args.number _ c.index-tables-number.result c.args.side.now c.requires.mine in
    let opening = P.theory.opening (slice_index_or c.args.tables.now c.args.number c.index-tables-number.result) in (
      lit< tt,
      (lit< tt, (has, λ free. subst (λ b. IsOrderly opening view.place view.sent view.got b) (sym c.bye.ensures.requests) (bye_orderly opening view c.requires.may))),
    )

pub returns-clause-mine : goal.returns-clause-mine
returns-clause-mine g c =
    call_seated g.P.PairTable.theory c.args.tables.now c.args.number _ c.index-tables-number.result c.publish.new.self
    c.args.side.now c.publish.new.side c.requires.mine c.publish.ensures.keeps.opening c.publish.ensures.keeps.mine

pub returns-clause-others : goal.returns-clause-others
returns-clause-others g c =
    let (at, opens, has) = seat_of g.P.PairTable.theory c.args.tables.now c.args.number _ c.index-tables-number.result c.args.side.now c.requires.mine in
    call_keeps g.P.PairTable.theory
    c.args.tables.now c.args.number (g.P.PairTable.theory.client_view c.args.side.now).place _ c.publish.new.self at c.publish.ensures.keeps.opening c.publish.ensures.keeps.clients
    c.publish.ensures.keeps.trustee

pub returns-clause-elsewhere : goal.returns-clause-elsewhere
returns-clause-elsewhere g c = λ n other ne seated.
    elsewhere_seated g.P.PairTable.theory c.args.tables.now c.args.number n (counting n) c.publish.new.self other ne seated
