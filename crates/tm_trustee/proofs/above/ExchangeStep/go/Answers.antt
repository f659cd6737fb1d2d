use Rattle.std.proofs.Common.{refl, sym, ◌∙◌, ap, subst}
use Rattle.std.specs.List.{AllByRecursion}
use Rattle.tm_model.specs.Orderly.{IsOfTrustee}
use Rattle.tm_trustee.proofs.Exchanging as exchanging
use Rattle.tm_trustee.proofs.above.ExchangeStep.go.Goals as goal

pub take_in-requires : goal.take_in-requires
take_in-requires g c =
    let theory = g.P.PairTable.theory in
    let good = g.met.P.PairTable.laws.client_is_good c.args.table.now c.args.seat.now c.requires.mine in (
      g.met.S.FitsAnswers.fits,
      (
        c.requires.needs.told,
        (
          c.requires.needs.room,
          exchanging.got_few g.S.Entrusted.kind (theory.opening c.args.table.now) (theory.client_view c.args.seat.now) (theory.client_view c.collect.new.side)
              c.in-Answers.came good c.in-Answers.ensures.collects,
        ),
      ),
    )

pub returns-in-Answers : goal.returns-in-Answers
returns-in-Answers g c =
    exchanging.takes_up g.P.PairTable.theory c.args.table.now c.collect.new.self c.args.seat.now c.collect.new.side c.args.lane.now c.take_in.new.self c.requires.asked
    c.requires.at (c.in-Answers.came, c.in-Answers.ensures.collects, c.take_in.ensures, c.in-Answers.ensures.did, c.in-Answers.ensures.keeps)

pub returns-in-Pending : goal.returns-in-Pending
returns-in-Pending g c =
    exchanging.finds_up g.P.PairTable.theory c.args.table.now c.collect.new.self c.args.seat.now c.collect.new.side c.args.lane.now c.requires.asked c.requires.at
    (c.in-Pending.ensures.collects, refl, c.in-Pending.ensures.did, c.in-Pending.ensures.keeps)

pub send_asks-requires-clause-mine : goal.send_asks-requires-clause-mine
send_asks-requires-clause-mine g c = c.in-Idle.ensures.keeps.mine

pub send_asks-requires-clause-asked : goal.send_asks-requires-clause-asked
send_asks-requires-clause-asked g c = subst (λ v. AllByRecursion IsOfTrustee v.sent) (sym c.in-Idle.ensures.collects.kept) c.requires.asked

pub send_asks-requires-clause-free : goal.send_asks-requires-clause-free
send_asks-requires-clause-free g c = ap (λ v. v.out) c.in-Idle.ensures.collects.kept ∙ c.in-Idle.ensures.collects.out

pub send_asks-requires-clause-needs : goal.send_asks-requires-clause-needs
send_asks-requires-clause-needs g c =
    exchanging.may_still g.P.PairTable.theory c.args.table.now c.collect.new.self c.args.seat.now c.collect.new.side c.args.lane.now c.in-Idle.ensures.did
    c.in-Idle.ensures.collects.kept c.requires.needs

pub returns-in-Idle : goal.returns-in-Idle
returns-in-Idle g c =
    let theory = g.P.PairTable.theory in
    exchanging.idles_up theory c.args.table.now c.collect.new.self c.send_asks.new.table c.args.seat.now c.collect.new.side c.send_asks.new.seat c.args.lane.now
    c.send_asks.new.lane c.send_asks.result c.requires.asked c.requires.at c.requires.needs c.in-Idle.ensures.collects c.in-Idle.ensures.did c.in-Idle.ensures.keeps
    c.send_asks.ensures
