use Rattle.std.proofs.Common.{◌+◌, ◌-◌, ◌<◌, ◌≤◌, length, arith, lit<, sym, subst}
use Rattle.tm_model.specs.Orderly.{IsOrderly}
use Rattle.tm_tests.proofs.LaunchingKept.{works_orderly, has_asked, has_client, opens_so, called, table_there}
use Rattle.tm_tests.proofs.tests.turns.launching.play.Play.ask.Goals as goal

pub index_mut-requires : goal.index_mut-requires
index_mut-requires g c =
    let play = c.args.self.now in
    let there = table_there g.P.PairTable.theory play.tables.items play.middle play.greatest play.client play.asked c.requires in
    omega (arith, there)

pub publish-requires : goal.publish-requires
publish-requires g c =
    let P = g.P.PairTable in
    let play = c.args.self.now in
    let view = P.theory.client_view play.client in
    let few = c.requires.few in
    let size = c.batch.ensures.size in
    let opens = opens_so P.theory play.tables.items play.middle play.greatest play.client play.asked c.requires c.index_mut.result.now c.index_mut.ensures.value in (
      lit< tt,
      (
        lit< tt,
        (
          has_client P.theory play.tables.items play.middle play.greatest play.client play.asked c.requires c.index_mut.result.now c.index_mut.ensures.value,
          λ free.
              subst (λ o. IsOrderly o view.place view.sent view.got c.batch.result.requests.items) (sym opens)
              (works_orderly view play.asked c.requires.asked c.batch.result.requests.items c.batch.ensures.works (omega (arith, few, size))),
        ),
      ),
    )

pub returns : goal.returns
returns g c =
    let P = g.P.PairTable in
    let play = c.args.self.now in
    let size = c.batch.ensures.size in
    let few = c.requires.few in
    called P.theory play.tables.items play.middle play.greatest play.client play.asked c.requires c.index_mut.result.now c.index_mut.ensures.value
    c.publish.new.self c.publish.new.side (play.asked + length c.args.works.now) c.publish.ensures.keeps
    (has_asked c.publish.result c.batch.result.requests.items c.batch.result.room play.asked (play.asked + length c.args.works.now) _ _ c.publish.ensures.ok
    c.publish.ensures.err c.requires.asked c.batch.ensures.works (omega (arith, size)))
    (omega (arith, few))
