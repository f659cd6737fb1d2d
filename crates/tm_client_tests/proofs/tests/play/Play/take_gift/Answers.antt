use Rattle.std.proofs.Common.{arith}
use Rattle.tm_client_tests.proofs.Played.{by_option, is_there, one, same_client, same_lanes}
use Rattle.tm_client_tests.proofs.tests.play.Play.take_gift.Goals as goal

pub index_mut-requires : goal.index_mut-requires
index_mut-requires g c =
    let play = c.args.self.now in
    let within = is_there g.P.PairTable.theory g.S.Entrusted.kind play.tables.items play.trustee play.clients.items c.requires.plays c.args.who c.requires.who in
    omega (arith, within)

pub take_gift-requires : goal.take_gift-requires
take_gift-requires g c =
    let play = c.args.self.now in
    record {
      client = (
        c.requires.plays.openings,
        (one g.P.PairTable.theory g.S.Entrusted.kind play.tables.items play.trustee play.clients.items c.requires.plays c.args.who c.index_mut.result.now c.requires.who
            c.index_mut.ensures.value).client,
      );
    }

pub returns : goal.returns
returns g c =
    let theory = g.P.PairTable.theory in
    let kind = g.S.Entrusted.kind in
    let play = c.args.self.now in
    let was = c.index_mut.result.now in
    let plays = c.requires.plays in
    let is = c.take_gift.ensures.client plays.openings (one theory kind play.tables.items play.trustee play.clients.items plays c.args.who was c.requires.who c.index_mut.ensures.value).client in
    by_option c.take_gift.result c.take_gift.ensures.gift
    (λ none. same_client theory kind play.tables.items play.trustee play.clients.items plays c.args.who was c.requires.who c.index_mut.ensures.value c.take_gift.new.self none.1)
    (λ gift a.
    same_lanes theory kind play.tables.items play.trustee play.clients.items plays c.args.who was c.requires.who c.index_mut.ensures.value c.take_gift.new.self a.lanes a.number is)
